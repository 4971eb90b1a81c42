-- A message that is shown.
use Rattle.std.proofs.Common.{◌≡◌, ◌≢◌, ℕ, zero, suc, ◌+◌, ◌-◌, ◌<◌, List, [], ◌∷◌, ◌++◌, length, Option, None, Some, inl, inr, refl, sym, ap, ◌∙◌, subst, arith}
use Rattle.std.specs.Prelude.{decimal, map, slice_get}
use Rattle.std.proofs.lemmas.List.{length-append, length-map, length-replicate}
use Rattle.std.proofs.lemmas.Option.{slice_get_cases, slice_get_past}
use Rattle.std.specs.Io.KnownBytes.{Appends}
use Rattle.std.proofs.KnownBytes.{Appends-nil, Appends-trans}
use Rattle.ch11_reader.specs.Recording.{Found}
use Rattle.ch11_reader.specs.Contents.{heard_in, heard_of}
use Rattle.replay.specs.Moves.{ReplayState}
use Rattle.bench_select.specs.Viewed.{Viewed, viewed_in, viewed_of}
use Rattle.bench_places.specs.Places.{count_to, message_of_number}
use Rattle.bench_decode.specs.declared.line.Shown.{Shown}
use Rattle.bench_decode.specs.declared.line.Shown.TheVariants.{Plain}
use Rattle.bench_decode.specs.declared.messages.Place.{Place}
use Rattle.bench_decode.specs.Columns.{Part, drawn, right, spaces, text}
use Rattle.bench_decode.specs.MessageText.{message_line, message_parts, place_by}
use Rattle.bench_decode.specs.Waiting.{IsPut, Waiting, no_lines}
use Rattle.bench_step.specs.Session.{MessagesHaveText, line_of, message_text, place_in}

-- text was put where none waited, and all that waits was handed on
line_printed : (got mid gets : Option (List ℕ)) (before after : Waiting) (more : List ℕ) → before ≡ no_lines Plain → IsPut got before mid after more → Appends mid gets after.text → Appends got gets more
line_printed got mid gets before after more none put gone =
    subst (λ (all : List ℕ). Appends got gets all) (put.carried.kept ∙ ap (λ (w : Waiting). w.text ++ more) none) (Appends-trans got mid gets put.carried.sent after.text put.carried.taken gone)

-- then none waits
pub waits : (got mid : Option (List ℕ)) (before after last : Waiting) (more : List ℕ) → before ≡ no_lines Plain → IsPut got before mid after more → last ≡ no_lines after.shown → last ≡ no_lines Plain
waits got mid before after last more none put is = is ∙ ap no_lines (put.shown ∙ ap (λ (w : Waiting). w.shown) none)

-- the line of a message that is there
text_there : (found : List Found) (n count : ℕ) (h : Viewed) (before : Waiting) → before ≡ no_lines Plain → Some h ≡ message_of_number n (viewed_in found) → count ≡ count_to h.0 n found
    → message_line before.shown (record { number = n; channel = h.0; in_channel = count }) h.1 ≡ message_text n found
unfolding message_text
text_there found n count h before none there many =
    ap (λ (w : Waiting). message_line w.shown (record { number = n; channel = h.0; in_channel = count }) h.1) none
    ∙ ap (λ (k : ℕ). message_line Plain (record { number = n; channel = h.0; in_channel = k }) h.1) many
    ∙ ap (line_of found n) there

pub printed : (found : List Found) (n count : ℕ) (h : Viewed) (got mid gets : Option (List ℕ)) (before after : Waiting) → Some h ≡ message_of_number n (viewed_in found) → before ≡ no_lines Plain
    → count ≡ count_to h.0 n found → IsPut got before mid after (message_line before.shown (record { number = n; channel = h.0; in_channel = count }) h.1) → Appends mid gets after.text
    → Appends got gets (message_text n found)
printed found n count h got mid gets before after there none many put gone =
    subst (λ (t : List ℕ). Appends got gets t) (text_there found n count h before none there many)
    (line_printed got mid gets before after (message_line before.shown (record { number = n; channel = h.0; in_channel = count }) h.1) none put gone)

-- of a message that is not there nothing is printed
pub absent : (found : List Found) (n : ℕ) (got : Option (List ℕ)) → None ≡ message_of_number n (viewed_in found) → Appends got got (message_text n found)
unfolding message_text
absent found n got none = subst (λ (t : List ℕ). Appends got got t) (ap (line_of found n) none) (Appends-nil got)

pub absent_is : (found : List Found) (n : ℕ) (got : Option (List ℕ)) (message : Option Viewed) → message ≡ message_of_number n (viewed_in found) → message ≡ None → Appends got got (message_text n found)
absent_is found n got message same none = absent found n got (sym none ∙ same)

-- the line of a message begins with its number at the end of seven columns
number_front : (bytes : List ℕ) → 0 < length (right 7 bytes)
number_front bytes = omega (arith, length-append (spaces (7 - length bytes)) bytes, length-replicate {A = ℕ} (7 - length bytes) 32)

begins : (shown : Shown) (columns : ℕ) (bytes : List ℕ) (ps : List Part) → 0 < length bytes → 0 < length (drawn shown columns (text bytes ∷ ps))
unfolding drawn
begins shown columns bytes ps some = omega (arith, some, length-append bytes (drawn shown (columns + length bytes) ps))

has_line : (place : Place) (h : Viewed) → 0 < length (message_line Plain place h.1)
unfolding message_line message_parts place_by
has_line place h = begins Plain 0 (right 7 (decimal place.number)) _ (number_front (decimal place.number))

line_of_some : (found : List Found) (n : ℕ) (message : Option Viewed) → message ≢ None → 0 < length (line_of found n message)
line_of_some found n None some = absurd (some refl)
line_of_some found n (Some h) some = has_line (place_in found n h.0) h

-- there are as many messages with their channels as there are views of them
same_length : {X Y Z : Type 0} (f : X → Y) (g : X → Z) (xs : List X) → length (map f xs) ≡ length (map g xs)
same_length f g xs = length-map xs f ∙ sym (length-map xs g)

packet_count : (p : Found) → length (viewed_of p) ≡ length (heard_of p)
packet_count p = same_length _ _ p.messages

same_count : (ps : List Found) → length (viewed_in ps) ≡ length (heard_in ps)
same_count [] = refl
same_count (p ∷ ps) = omega (arith, length-append (viewed_of p) (viewed_in ps), length-append (heard_of p) (heard_in ps), packet_count p, same_count ps)

-- what is not there in the one list is not there in the other
absent_too : (ps : List Found) (n : ℕ) → slice_get (viewed_in ps) n ≡ None → slice_get (heard_in ps) n ≡ None
absent_too ps n none =
    elim (slice_get_cases (viewed_in ps) n).1 [
      | inl there ↦ let is = there.2 in absurd cc
      | inr past ↦ slice_get_past (heard_in ps) n (omega (arith, past.0, same_count ps))
    ]

pub have_text : MessagesHaveText
unfolding message_text
have_text s zero has = absurd (has refl)
have_text s (suc n) has = line_of_some s.found (suc n) (slice_get (viewed_in s.found) n) (λ none. has (absent_too s.found n none))
