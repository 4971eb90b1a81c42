-- The tokens of printed pieces of text.
use Rattle.std.proofs.Common.{◌≡◌, ℕ, zero, suc, ◌<◌, ◌^◌, true, false, cond, List, [], ◌∷◌, ◌++◌, length, map, refl, ap, ap₂, ◌∙◌, append_assoc, arith}
use Rattle.std.specs.Prelude.{codes, decimal, ◌&&◌}
use Rattle.std.proofs.lemmas.Fmt.{decimal_nonempty}
use Rattle.frame_text.specs.Tokens.{in_word, goes_on, glued, lex}
use Rattle.frame_text.specs.Reading.{Tokens}
use Rattle.frame_text.specs.Chains.{AreWords}
use Rattle.frame_text.specs.PrintedMessages.{spaced, data_word_text, bracketed_text}
use Rattle.frame_text.specs.Printing.{indent, block_text}
use Rattle.frame_text.proofs.Lexing.{lex_token, word_apart}
use Rattle.frame_text.proofs.Digits.{IsRun, decimal_run, data_word_run}

-- a text that puts tokens in front of those of what stands behind it, where no word goes on there
pub record Spells (text : List ℕ) (put : Tokens → Tokens) : Type 0 where
  pub reads : (rest : List ℕ) → goes_on rest ≡ false → lex false (text ++ rest) ≡ put (lex false rest)

-- the same, whatever stands behind it
pub record SpellsLines (text : List ℕ) (put : Tokens → Tokens) : Type 0 where
  pub reads : (rest : List ℕ) → lex false (text ++ rest) ≡ put (lex false rest)

run_spells : (b : ℕ) (bs : List ℕ) → in_word b ≡ true → IsRun bs → (rest : List ℕ) → goes_on rest ≡ false → lex false ((b ∷ bs) ++ rest) ≡ (b ∷ bs) ∷ lex false rest
run_spells b [] h r rest e =
    let a = word_apart b h in
    lex_token b rest a.0 a.1 ∙ ap₂ (λ t u. cond (t && u) (glued b (lex false rest)) ((b ∷ []) ∷ lex false rest)) h e
run_spells b (c ∷ bs) h r rest e =
    let a = word_apart b h in
    lex_token b (c ∷ (bs ++ rest)) a.0 a.1
    ∙ ap₂ (λ t u. cond (t && u) (glued b (lex false (c ∷ (bs ++ rest)))) ((b ∷ []) ∷ lex false (c ∷ (bs ++ rest)))) h r.0
    ∙ ap (glued b) (run_spells c bs r.0 r.1 rest e)

-- a word
pub word_spells : (w : List ℕ) → 0 < length w → IsRun w → Spells w (λ ts. w ∷ ts)
word_spells [] h r = absurd (omega (arith, h))
word_spells (b ∷ bs) h r = record { reads = run_spells b bs r.0 r.1 }

pub number_spells : (n : ℕ) → n < 2 ^ 64 → Spells (decimal n) (λ ts. decimal n ∷ ts)
number_spells n h = word_spells (decimal n) (decimal_nonempty n h) (decimal_run n h)

data_word_spells : (w : ℕ) → w < 65536 → Spells (data_word_text w) (λ ts. data_word_text w ∷ ts)
data_word_spells w h = word_spells (data_word_text w) (omega arith) (data_word_run w h)

-- two texts with a space between them
pub spaced_spells : {a b : List ℕ} {f g : Tokens → Tokens} → Spells a f → Spells b g → Spells (a ++ (32 ∷ b)) (λ ts. f (g ts))
unfolding lex
spaced_spells {a = a} {b = b} {f = f} {g = g} p q = record { reads = λ rest e. ap (lex false) (append_assoc a (32 ∷ b) rest) ∙ p.reads (32 ∷ (b ++ rest)) refl ∙ ap f (q.reads rest e) }

pub spaced_lines : {a b : List ℕ} {f g : Tokens → Tokens} → Spells a f → SpellsLines b g → SpellsLines (a ++ (32 ∷ b)) (λ ts. f (g ts))
unfolding lex
spaced_lines {a = a} {b = b} {f = f} {g = g} p q = record { reads = λ rest. ap (lex false) (append_assoc a (32 ∷ b) rest) ∙ p.reads (32 ∷ (b ++ rest)) refl ∙ ap f (q.reads rest) }

-- a text at the end of its line
pub line_spells : {a : List ℕ} {f : Tokens → Tokens} → Spells a f → SpellsLines (a ++ codes "\n") f
unfolding lex
line_spells {a = a} {f = f} p = record { reads = λ rest. ap (lex false) (append_assoc a (codes "\n") rest) ∙ p.reads (10 ∷ rest) refl }

indented : (depth : ℕ) (a : List ℕ) (f : Tokens → Tokens) → SpellsLines a f → (rest : List ℕ) → lex false ((indent depth ++ a) ++ rest) ≡ f (lex false rest)
unfolding lex
indented zero a f p rest = p.reads rest
indented (suc depth) a f p rest = indented depth a f p rest

pub indent_spells : (depth : ℕ) {a : List ℕ} {f : Tokens → Tokens} → SpellsLines a f → SpellsLines (indent depth ++ a) f
indent_spells depth {a = a} {f = f} p = record { reads = indented depth a f p }

-- lines one after the other
pub lines_spell : {a b : List ℕ} {f g : Tokens → Tokens} → SpellsLines a f → SpellsLines b g → SpellsLines (a ++ b) (λ ts. f (g ts))
lines_spell {a = a} {b = b} {f = f} {g = g} p q = record { reads = λ rest. ap (lex false) (append_assoc a b rest) ∙ p.reads (b ++ rest) ∙ ap f (q.reads rest) }

-- no line
pub no_lines : SpellsLines [] (λ ts. ts)
no_lines = record { reads = λ rest. refl }

brace_spells : SpellsLines (codes "}") (λ ts. codes "}" ∷ ts)
unfolding lex
brace_spells = record { reads = λ rest. refl }

-- a block
pub block_spells : (depth : ℕ) {inner : List ℕ} {f : Tokens → Tokens} → SpellsLines inner f → Spells (block_text depth inner) (λ ts. codes "{" ∷ f (codes "}" ∷ ts))
unfolding lex
block_spells depth {inner = inner} {f = f} p = record {
  reads = λ rest e.
      ap (λ xs. codes "{" ∷ lex false xs) (append_assoc inner (indent depth ++ codes "}") rest)
      ∙ ap (λ xs. codes "{" ∷ xs) (p.reads ((indent depth ++ codes "}") ++ rest))
      ∙ ap (λ xs. codes "{" ∷ f xs) ((indent_spells depth brace_spells).reads rest);
}

abbrev pub words_then : List ℕ → Tokens → Tokens
words_then [] ts = ts
words_then (w ∷ ws) ts = data_word_text w ∷ words_then ws ts

words_spell : (ws : List ℕ) → AreWords ws → Spells (spaced (map data_word_text ws)) (words_then ws)
words_spell [] h = record { reads = λ rest e. refl }
words_spell (w ∷ []) h = data_word_spells w h.0
words_spell (w ∷ v ∷ ws) h = spaced_spells (data_word_spells w h.0) (words_spell (v ∷ ws) h.1)

-- data words in their brackets
abbrev pub brackets_then : List ℕ → Tokens → Tokens
brackets_then ws ts = codes "[" ∷ words_then ws (codes "]" ∷ ts)

pub brackets_spell : (ws : List ℕ) → AreWords ws → Spells (bracketed_text ws) (brackets_then ws)
unfolding lex
brackets_spell ws h = record {
  reads = λ rest e.
      ap (λ xs. codes "[" ∷ lex false xs) (append_assoc (spaced (map data_word_text ws)) (codes "]") rest)
      ∙ ap (λ xs. codes "[" ∷ xs) ((words_spell ws h).reads (93 ∷ rest) refl);
}
