-- The grammar of scripts as rules: a rule for each form of the grammar in docs/formats.md (own choice).
-- `SpellFrame tokens t` says that the tokens spell the frame t, and its rules say when: by `repeat` the word repeat,
-- a number n from 1 to 10,000 and a body in braces spell the frame `repeat n b` where the body spells the frames b.
-- `codes "repeat"` is that word, `∷` puts a token in front of others, and `++` joins tokens.
pub mod Words
pub mod Conditions
pub mod Messages
pub mod Frames
pub mod Scripts
pub mod Laws
