-- The tokens of printed trees, and what is read of them.
use Rattle.std.proofs.Common.{◌≡◌, ℕ, ◌+◌, ◌*◌, ◌<◌, ◌≤◌, ◌^◌, Bool, true, false, cond, List, [], ◌∷◌, ◌++◌, length, refl, sym, arith, subst}
use Rattle.std.specs.Prelude.{codes, decimal, nat_eq, nat_le, ◌&&◌, ◌||◌}
use Rattle.std.proofs.lemmas.Bool.Decides.{nat_tests}
use Rattle.frame_tree.specs.Names as names
use Rattle.frame_tree.specs.Names.{is_name}
use Rattle.frame_text.specs.Tokens.{in_word}
use Rattle.frame_text.proofs.Digits.{IsRun}
use Rattle.mil_message.specs.declared.forms.Form.{Form}
use Rattle.mil_message.specs.declared.forms.Form.TheVariants.{ToTerminal, FromTerminal, Between, Mode, ModeFrom, ModeTo, ToAll, BetweenAll, ModeAll, ModeAllTo}
use Rattle.frame_tree.specs.Tree.{Condition, Tree, send, retry, gap, repeat, choose, until, timed, nothing, chained, call, define}
use Rattle.frame_tree.specs.Bounds.{IsInRange}
use Rattle.frame_text.specs.Reading.{Tokens, same_bytes}
use Rattle.mil_word.specs.Printing.{line_text}
use Rattle.frame_text.specs.Printing.{lines, is_empty, block_text, else_text}
use Rattle.frame_text.proofs.Spelling.{Spells, SpellsLines, word_spells, number_spells, spaced_lines, line_spells, indent_spells, lines_spell, no_lines, block_spells, words_then}
use Rattle.frame_text.specs.Chains.{IsRead, IsScript}
use Rattle.frame_text.proofs.PrintedForms.{Small, MayFollow, message_then, send_then, send_spells}
use Rattle.frame_text.proofs.ConditionsBack.{condition_then, condition_spells, condition_grows}

pub script_of : (t : Tree) → IsRead true t → IsScript t
script_of nothing r = r
script_of (chained a b) r = r
script_of (send line m) r = r
script_of (retry n line m) r = r
script_of (gap n) r = r
script_of (repeat n b) r = r
script_of (choose c a b) r = r
script_of (until c n b) r = r
script_of (timed n b) r = r
script_of (call n) r = r
script_of (define n b k) r = absurd r

-- the tokens of a tree, in front of others
abbrev pub tree_then : Tree → Tokens → Tokens
tree_then (send line m) ts = send_then line m ts
tree_then (retry n line m) ts = codes "retry" ∷ decimal n ∷ send_then line m ts
tree_then (gap n) ts = codes "gap" ∷ decimal n ∷ ts
tree_then (repeat n b) ts = codes "repeat" ∷ decimal n ∷ codes "{" ∷ tree_then b (codes "}" ∷ ts)
tree_then (choose c a b) ts =
    codes "if" ∷ condition_then c (codes "{" ∷ tree_then a (codes "}" ∷ cond (is_empty b) ts (codes "else" ∷ codes "{" ∷ tree_then b (codes "}" ∷ ts))))
tree_then (until c n b) ts = codes "until" ∷ condition_then c (codes "at" ∷ codes "most" ∷ decimal n ∷ codes "{" ∷ tree_then b (codes "}" ∷ ts))
tree_then (timed n b) ts = codes "frame" ∷ decimal (n * 100) ∷ codes "{" ∷ tree_then b (codes "}" ∷ ts)
tree_then (call n) ts = codes "call" ∷ n ∷ ts
tree_then (define n b r) ts = codes "define" ∷ n ∷ codes "{" ∷ tree_then b (codes "}" ∷ tree_then r ts)
tree_then nothing ts = ts
tree_then (chained a b) ts = tree_then a (tree_then b ts)

pub number_spelled : (n k : ℕ) → k ≤ 65535 → n ≤ k → Small n
number_spelled n k h l = omega (arith, h, l)

spelled : (n k : ℕ) → k ≤ 65535 → n ≤ k → n < 2 ^ 64
spelled n k h l = omega (arith, h, l)

period_spelled : (h : ℕ) → h ≤ 65535 → h * 100 < 2 ^ 64
period_spelled h l = omega (arith, l)

-- a name is a run of letters, digits and _
word_byte : (b : ℕ) → (names.is_letter b || (nat_le 48 b && nat_le b 57) || nat_eq b 95) ≡ true → in_word b ≡ true
word_byte b h = grind (arith, nat_tests)

two : (a b : Bool) → (a && b) ≡ true → (a ≡ true) × (b ≡ true)
two true b e = (refl, e)
two false b e = absurd (cc)

word_run : (n : List ℕ) → names.are_word_bytes n ≡ true → IsRun n
word_run [] h = tt
word_run (b ∷ bs) h = let p = two (names.is_letter b || (nat_le 48 b && nat_le b 57) || nat_eq b 95) (names.are_word_bytes bs) h in (word_byte b p.0, word_run bs p.1)

name_spells : (n : List ℕ) → is_name n ≡ true → Spells n (λ ts. n ∷ ts)
name_spells [] h = absurd (cc)
name_spells (b ∷ bs) h =
    let p = two (names.begins (b ∷ bs) && names.are_word_bytes (b ∷ bs)) (nat_le (length (b ∷ bs)) 16) h in
    let q = two (names.begins (b ∷ bs)) (names.are_word_bytes (b ∷ bs)) p.0 in
    word_spells (b ∷ bs) (omega arith) (word_run (b ∷ bs) q.1)

-- the tokens of the lines of a tree
pub tree_spells : (k : Bool) (t : Tree) (d : ℕ) → IsRead k t → IsInRange t → SpellsLines (lines d t) (tree_then t)
unfolding lines
tree_spells false (send line m) d r h = indent_spells d (line_spells (send_spells line m r))
tree_spells false (retry n line m) d r h =
    indent_spells d (spaced_lines (word_spells (codes "retry") (omega arith) (refl, (refl, (refl, (refl, (refl, tt)))))) (spaced_lines (number_spells n (spelled n 8 (omega arith) h.1)) (line_spells (send_spells line m r))))
tree_spells false (gap n) d r h =
    indent_spells d (spaced_lines (word_spells (codes "gap") (omega arith) (refl, (refl, (refl, tt)))) (line_spells (number_spells n (spelled n 65535 (omega arith) h.1))))
tree_spells false (repeat n b) d r h =
    indent_spells d (spaced_lines (word_spells (codes "repeat") (omega arith) (refl, (refl, (refl, (refl, (refl, (refl, tt)))))))
    (spaced_lines (number_spells n (spelled n 10000 (omega arith) h.1)) (line_spells (block_spells d (tree_spells true b (d + 1) r h.2)))))
tree_spells false (choose c a b) d r h =
    indent_spells d (spaced_lines (word_spells (codes "if") (omega arith) (refl, (refl, tt)))
    (spaced_lines (condition_spells c) (by (is_empty b) (tree_spells true a (d + 1) r.0 h.1) (tree_spells true b (d + 1) r.1 h.2))))
  where
    by : (e : Bool) → SpellsLines (lines (d + 1) a) (tree_then a) → SpellsLines (lines (d + 1) b) (tree_then b)
        → SpellsLines (block_text d (lines (d + 1) a) ++ (else_text d e (lines (d + 1) b) ++ codes "\n"))
        (λ ts. codes "{" ∷ tree_then a (codes "}" ∷ cond e ts (codes "else" ∷ codes "{" ∷ tree_then b (codes "}" ∷ ts))))
    by true p q = line_spells (block_spells d p)
    by false p q = spaced_lines (block_spells d p) (spaced_lines (word_spells (codes "else") (omega arith) (refl, (refl, (refl, (refl, tt))))) (line_spells (block_spells d q)))
tree_spells false (until c n b) d r h =
    indent_spells d (spaced_lines (word_spells (codes "until") (omega arith) (refl, (refl, (refl, (refl, (refl, tt))))))
    (spaced_lines (condition_spells c)
    (spaced_lines (word_spells (codes "at") (omega arith) (refl, (refl, tt)))
    (spaced_lines (word_spells (codes "most") (omega arith) (refl, (refl, (refl, (refl, tt)))))
    (spaced_lines (number_spells n (spelled n 10000 (omega arith) h.2)) (line_spells (block_spells d (tree_spells true b (d + 1) r h.3))))))))
tree_spells false (timed n b) d r h =
    indent_spells d (spaced_lines (word_spells (codes "frame") (omega arith) (refl, (refl, (refl, (refl, (refl, tt))))))
    (spaced_lines (number_spells (n * 100) (period_spelled n h.1)) (line_spells (block_spells d (tree_spells true b (d + 1) r h.2)))))
tree_spells false (call n) d r h = indent_spells d (spaced_lines (word_spells (codes "call") (omega arith) (refl, (refl, (refl, (refl, tt))))) (line_spells (name_spells n r)))
tree_spells false (define n b k) d r h = absurd r
tree_spells false nothing d r h = absurd r
tree_spells false (chained a b) d r h = absurd r
tree_spells true nothing d r h = no_lines
tree_spells true (chained a b) d r h = lines_spell (tree_spells false a d r.0 h.0) (tree_spells true b d r.1 h.1)
tree_spells true (send line m) d r h = absurd r
tree_spells true (retry n line m) d r h = absurd r
tree_spells true (gap n) d r h = absurd r
tree_spells true (repeat n b) d r h = absurd r
tree_spells true (choose c a b) d r h = absurd r
tree_spells true (until c n b) d r h = absurd r
tree_spells true (timed n b) d r h = absurd r
tree_spells true (call n) d r h = absurd r
tree_spells true (define n b k) d r h = absurd r

pub script_spells : (t : Tree) → IsScript t → IsInRange t → SpellsLines (lines 0 t) (tree_then t)
unfolding lines
script_spells (define n b k) r h = lines_spell (spaced_lines (word_spells (codes "define") (omega arith) (refl, (refl, (refl, (refl, (refl, (refl, tt))))))) (spaced_lines (name_spells n r.0) (line_spells (block_spells 0 (tree_spells true b 1 r.1 h.0))))) (script_spells k r.2 h.1)
script_spells nothing r h = tree_spells true nothing 0 r h
script_spells (chained a b) r h = tree_spells true (chained a b) 0 r h
script_spells (send line m) r h = absurd r
script_spells (retry n line m) r h = absurd r
script_spells (gap n) r h = absurd r
script_spells (repeat n b) r h = absurd r
script_spells (choose c a b) r h = absurd r
script_spells (until c n b) r h = absurd r
script_spells (timed n b) r h = absurd r
script_spells (call n) r h = absurd r

words_grow : (ws : List ℕ) (ts : Tokens) → length ts ≤ length (words_then ws ts)
words_grow [] ts = omega arith
words_grow (w ∷ ws) ts = omega (arith, words_grow ws ts)

message_grows : (m : Form) (ts : Tokens) → length ts ≤ length (message_then m ts)
message_grows (ToTerminal a s ws) ts = omega (arith, words_grow ws.items (codes "]" ∷ ts))
message_grows (FromTerminal a s n) ts = omega arith
message_grows (Between a s b t n) ts = omega arith
message_grows (Mode a s c) ts = omega arith
message_grows (ModeFrom a s c) ts = omega arith
message_grows (ModeTo a s c w) ts = omega arith
message_grows (ToAll s ws) ts = omega (arith, words_grow ws.items (codes "]" ∷ ts))
message_grows (BetweenAll a s t n) ts = omega arith
message_grows (ModeAll s c) ts = omega arith
message_grows (ModeAllTo s c w) ts = omega arith

choose_longer : (e : Bool) (c : Condition) (a b : Tree) (ts : Tokens) → length (codes "}" ∷ ts) ≤ length (tree_then b (codes "}" ∷ ts)) → ((us : Tokens) → length us ≤ length (tree_then a us))
    → length ts < length (codes "if" ∷ condition_then c (codes "{" ∷ tree_then a (codes "}" ∷ cond e ts (codes "else" ∷ codes "{" ∷ tree_then b (codes "}" ∷ ts)))))
choose_longer true c a b ts q p = omega (arith, condition_grows c (codes "{" ∷ tree_then a (codes "}" ∷ ts)), p (codes "}" ∷ ts))
choose_longer false c a b ts q p =
    let behind : Tokens = codes "}" ∷ codes "else" ∷ codes "{" ∷ tree_then b (codes "}" ∷ ts) in
    omega (arith, condition_grows c (codes "{" ∷ tree_then a behind), p behind, q)

until_longer : (c : Condition) (n : ℕ) (b : Tree) (ts : Tokens) → length (codes "}" ∷ ts) ≤ length (tree_then b (codes "}" ∷ ts))
    → length ts < length (codes "until" ∷ condition_then c (codes "at" ∷ codes "most" ∷ decimal n ∷ codes "{" ∷ tree_then b (codes "}" ∷ ts)))
until_longer c n b ts q = omega (arith, condition_grows c (codes "at" ∷ codes "most" ∷ decimal n ∷ codes "{" ∷ tree_then b (codes "}" ∷ ts)), q)

-- a tree has no fewer tokens than stand behind it
grows : (t : Tree) (ts : Tokens) → length ts ≤ length (tree_then t ts)
grows (send line m) ts = omega (arith, message_grows m ts)
grows (retry n line m) ts = omega (arith, message_grows m ts)
grows (gap n) ts = omega arith
grows (repeat n b) ts = omega (arith, grows b (codes "}" ∷ ts))
grows (choose c a b) ts = omega (arith, choose_longer (is_empty b) c a b ts (grows b (codes "}" ∷ ts)) (grows a))
grows (until c n b) ts = omega (arith, until_longer c n b ts (grows b (codes "}" ∷ ts)))
grows (timed n b) ts = omega (arith, grows b (codes "}" ∷ ts))
grows (call n) ts = omega arith
grows (define n b r) ts = omega (arith, grows b (codes "}" ∷ tree_then r ts), grows r ts)
grows nothing ts = omega arith
grows (chained a b) ts = omega (arith, grows a (tree_then b ts), grows b ts)

-- the first token of a frame
pub record Begins (ts : Tokens) : Type 0 where
  pub word : List ℕ
  pub more : Tokens
  pub is : ts ≡ word ∷ more
  pub goes : same_bytes word (codes "}") ≡ false
  pub no_bracket : same_bytes word (codes "[") ≡ false
  pub no_else : same_bytes word (codes "else") ≡ false

pub begins : (t : Tree) → IsRead false t → (ts : Tokens) → Begins (tree_then t ts)
begins (send line m) r ts = record { word = codes "send"; more = line_text line ∷ message_then m ts; is = refl; goes = refl; no_bracket = refl; no_else = refl }
begins (retry n line m) r ts = record { word = codes "retry"; more = decimal n ∷ send_then line m ts; is = refl; goes = refl; no_bracket = refl; no_else = refl }
begins (gap n) r ts = record { word = codes "gap"; more = decimal n ∷ ts; is = refl; goes = refl; no_bracket = refl; no_else = refl }
begins (repeat n b) r ts = record { word = codes "repeat"; more = decimal n ∷ codes "{" ∷ tree_then b (codes "}" ∷ ts); is = refl; goes = refl; no_bracket = refl; no_else = refl }
begins (choose c a b) r ts = record { word = codes "if"; more = condition_then c (codes "{" ∷ tree_then a (codes "}" ∷ cond (is_empty b) ts (codes "else" ∷ codes "{" ∷ tree_then b (codes "}" ∷ ts)))); is = refl; goes = refl; no_bracket = refl; no_else = refl }
begins (until c n b) r ts = record { word = codes "until"; more = condition_then c (codes "at" ∷ codes "most" ∷ decimal n ∷ codes "{" ∷ tree_then b (codes "}" ∷ ts)); is = refl; goes = refl; no_bracket = refl; no_else = refl }
begins (timed n b) r ts = record { word = codes "frame"; more = decimal (n * 100) ∷ codes "{" ∷ tree_then b (codes "}" ∷ ts); is = refl; goes = refl; no_bracket = refl; no_else = refl }
begins (call n) r ts = record { word = codes "call"; more = n ∷ ts; is = refl; goes = refl; no_bracket = refl; no_else = refl }
begins (define n b k) r ts = absurd r
begins nothing r ts = absurd r
begins (chained a b) r ts = absurd r

-- what stands behind a frame in its chain may stand there
pub follows : (t : Tree) → IsRead true t → (ts : Tokens) → MayFollow ts → MayFollow (tree_then t ts)
follows nothing r ts f = f
follows (chained a b) r ts f = let g = begins a r.0 (tree_then b ts) in subst MayFollow (sym g.is) (g.no_bracket, g.no_else)
follows (send line m) r ts f = absurd r
follows (retry n line m) r ts f = absurd r
follows (gap n) r ts f = absurd r
follows (repeat n b) r ts f = absurd r
follows (choose c a b) r ts f = absurd r
follows (until c n b) r ts f = absurd r
follows (timed n b) r ts f = absurd r
follows (call n) r ts f = absurd r
follows (define n b k) r ts f = absurd r

-- a frame has at least one token
pub longer : (t : Tree) → IsRead false t → (ts : Tokens) → length ts < length (tree_then t ts)
longer (send line m) r ts = omega (arith, message_grows m ts)
longer (retry n line m) r ts = omega (arith, message_grows m ts)
longer (gap n) r ts = omega arith
longer (repeat n b) r ts = omega (arith, grows b (codes "}" ∷ ts))
longer (choose c a b) r ts = choose_longer (is_empty b) c a b ts (grows b (codes "}" ∷ ts)) (grows a)
longer (until c n b) r ts = until_longer c n b ts (grows b (codes "}" ∷ ts))
longer (timed n b) r ts = omega (arith, grows b (codes "}" ∷ ts))
longer (call n) r ts = omega arith
longer (define n b k) r ts = absurd r
longer nothing r ts = absurd r
longer (chained a b) r ts = absurd r
