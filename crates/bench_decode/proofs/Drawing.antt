-- Parts of a line, drawn one behind the other.
use Rattle.std.proofs.Common.{◌≡◌, ℕ, suc, ◌+◌, ◌-◌, ◌≤◌, List, [], ◌∷◌, ◌++◌, length, take, drop, max, refl, ap, sym, ◌∙◌, arith, append_assoc, append-nil, length-append}
use Rattle.std.proofs.lemmas.List.{length-replicate, length-take-le, take-append-le, take-take, take_all}
use Rattle.bench_dump.specs.Places.{IsPutInBuffer}
use Rattle.bench_decode.specs.declared.line.Shown.{Shown}
use Rattle.bench_decode.specs.declared.line.Shown.TheVariants.{Plain, Colored}
use Rattle.bench_decode.specs.Columns.{Part, text, upto, past, begin_red, end_red, spaces, control, red_control, plain_control, width_of, bytes_of, drawn, columns_behind}
use Rattle.bench_decode.specs.Waiting.{Waiting, told, controlled, drawn_on}

pub drawn-append : (shown : Shown) (columns : ℕ) (ps qs : List Part) → drawn shown columns (ps ++ qs) ≡ drawn shown columns ps ++ drawn shown (columns_behind columns ps) qs
unfolding drawn columns_behind
drawn-append shown columns [] qs = refl
drawn-append shown columns (p ∷ ps) qs = ap (λ (l : List ℕ). bytes_of shown columns p ++ l) (drawn-append shown (columns + width_of columns p) ps qs) ∙ sym (append_assoc (bytes_of shown columns p) (drawn shown (columns + width_of columns p) ps) (drawn shown (columns_behind (columns + width_of columns p) ps) qs))

pub columns-append : (columns : ℕ) (ps qs : List Part) → columns_behind columns (ps ++ qs) ≡ columns_behind (columns_behind columns ps) qs
unfolding columns_behind
columns-append columns [] qs = refl
columns-append columns (p ∷ ps) qs = columns-append (columns + width_of columns p) ps qs

-- no part makes a line shorter
pub columns-rise : (columns : ℕ) (ps : List Part) → columns ≤ columns_behind columns ps
unfolding columns_behind
columns-rise columns [] = omega arith
columns-rise columns (p ∷ ps) = omega (arith, columns-rise (columns + width_of columns p) ps)

step : (w : Waiting) (p : Part) (ps : List Part) → drawn_on w (p ∷ ps) ≡ drawn_on (record { text = w.text ++ bytes_of w.shown w.columns p; columns = w.columns + width_of w.columns p; shown = w.shown }) ps
unfolding drawn_on drawn columns_behind
step w p ps = ap (λ (l : List ℕ). record { text = l; columns = columns_behind (w.columns + width_of w.columns p) ps; shown = w.shown }) (sym (append_assoc w.text (bytes_of w.shown w.columns p) (drawn w.shown (w.columns + width_of w.columns p) ps)))

pub on-none : (w : Waiting) → drawn_on w [] ≡ w
unfolding drawn_on drawn columns_behind
on-none w = ap (λ (l : List ℕ). record { text = l; columns = w.columns; shown = w.shown }) (append-nil w.text)

pub on-append : (w : Waiting) (ps qs : List Part) → drawn_on w (ps ++ qs) ≡ drawn_on (drawn_on w ps) qs
unfolding drawn_on
on-append w ps qs =
    rw (drawn-append w.shown w.columns ps qs, columns-append w.columns ps qs, append_assoc w.text (drawn w.shown w.columns ps) (drawn w.shown (columns_behind w.columns ps) qs)) refl

pub on-text : (w : Waiting) (bytes : List ℕ) (ps : List Part) → drawn_on w (text bytes ∷ ps) ≡ drawn_on (told w bytes) ps
unfolding told
on-text w bytes ps = step w (text bytes) ps

pub on-upto : (w : Waiting) (column : ℕ) (ps : List Part) → drawn_on w (upto column ∷ ps) ≡ drawn_on (told w (spaces (column - w.columns))) ps
unfolding told
on-upto w column ps = rw (length-replicate {A = ℕ} (column - w.columns) 32) (step w (upto column) ps)

pub on-past : (w : Waiting) (column : ℕ) (ps : List Part) → drawn_on w (past column ∷ ps) ≡ drawn_on (told w (spaces (max (column - w.columns) 1))) ps
unfolding told
on-past w column ps = rw (length-replicate {A = ℕ} (max (column - w.columns) 1) 32) (step w (past column) ps)

pub on-begin_red : (w : Waiting) (ps : List Part) → drawn_on w (begin_red ∷ ps) ≡ drawn_on (controlled w red_control) ps
unfolding controlled
on-begin_red w ps = step w begin_red ps ∙ ap (λ (n : ℕ). drawn_on (record { text = w.text ++ control w.shown red_control; columns = n; shown = w.shown }) ps) (omega arith)

pub on-end_red : (w : Waiting) (ps : List Part) → drawn_on w (end_red ∷ ps) ≡ drawn_on (controlled w plain_control) ps
unfolding controlled
on-end_red w ps = step w end_red ps ∙ ap (λ (n : ℕ). drawn_on (record { text = w.text ++ control w.shown plain_control; columns = n; shown = w.shown }) ps) (omega arith)

pub told-told : (w : Waiting) (a b : List ℕ) → told (told w a) b ≡ told w (a ++ b)
unfolding told
told-told w a b = rw (append_assoc w.text a b, length-append a b) (ap (λ (n : ℕ). record { text = w.text ++ (a ++ b); columns = n; shown = w.shown }) (omega arith))

-- a line that begins is not longer than it is
pub on-rises : (w : Waiting) (ps : List Part) → w.columns ≤ (drawn_on w ps).columns
unfolding drawn_on
on-rises w ps = columns-rise w.columns ps

abbrev pub seen : List ℕ → ℕ → ℕ → Shown → Waiting
seen bytes len begin shown = record { text = take len bytes; columns = len - begin; shown = shown }

-- a whole buffer, as it lies in its owner
stored-is : (n : ℕ) (after items : List ℕ) → n ≡ length after → take n (after ++ drop (length after) items) ≡ after
stored-is n after items is = take-append-le n after (drop (length after) items) (omega arith) ∙ take_all n after (omega arith)

-- bytes that were placed where the text ended are told
pub told-placed : (items before after : List ℕ) (n len begin end : ℕ) (bytes : List ℕ) (shown : Shown) (w : Waiting) → before ≡ items → IsPutInBuffer before after len bytes end → n ≡ length after → begin ≤ len → seen items len begin shown ≡ w
    → seen (take n (after ++ drop (length after) items)) end begin shown ≡ told w bytes
unfolding told
told-placed items before after n len begin end bytes shown w same placed all within is =
    let further : end - begin ≡ len - begin + length bytes = omega (arith, placed.moved) in
    let text : take end (take n (after ++ drop (length after) items)) ≡ take len items ++ bytes = ap (λ (l : List ℕ). take end l) (stored-is n after items all) ∙ placed.text ∙ ap (λ (l : List ℕ). take len l ++ bytes) same in
    rw (← is, text, further) refl

-- how much text waits
pub seen-length : (items : List ℕ) (len begin : ℕ) (shown : Shown) (w : Waiting) → seen items len begin shown ≡ w → len ≤ length items → length w.text ≡ len
seen-length items len begin shown w is within = rw (← is) (length-take-le len items within)

take-append-plus : (xs ys : List ℕ) (k : ℕ) → take (length xs + k) (xs ++ ys) ≡ xs ++ take k ys
take-append-plus [] ys k = let e : 0 + k ≡ k = omega arith in ap (λ (n : ℕ). take n ys) e
take-append-plus (x ∷ xs) ys k = let e : suc (length xs) + k ≡ suc (length xs + k) = omega arith in ap (λ (n : ℕ). take n (x ∷ (xs ++ ys))) e ∙ ap (λ (l : List ℕ). x ∷ l) (take-append-plus xs ys k)

-- of bytes that were placed the first ones, up to an end
pub first-placed : (before after : List ℕ) (at end count mid : ℕ) (bytes : List ℕ) → IsPutInBuffer before after at bytes end → count ≤ length bytes → mid ≡ at + count → at ≤ length before → IsPutInBuffer before after at (take count bytes) mid
first-placed before after at end count mid bytes p few is within =
    let so_far : mid ≡ length (take at before) + count = omega (arith, is, length-take-le at before within) in
    record {
      text = sym (take-take mid end after (omega (arith, p.moved))) ∙ ap (λ (l : List ℕ). take mid l) p.text ∙ ap (λ (n : ℕ). take n (take at before ++ bytes)) so_far ∙ take-append-plus (take at before) bytes count;
      moved = omega (arith, is, length-take-le count bytes few);
      size = p.size;
    }

-- all of them, up to an end
pub all-placed : (before after : List ℕ) (at end mid : ℕ) (bytes : List ℕ) → IsPutInBuffer before after at bytes end → mid ≡ at + length bytes → IsPutInBuffer before after at bytes mid
all-placed before after at end mid bytes p is = let same : end ≡ mid = omega (arith, p.moved, is) in rw same at p

-- a control sequence is told, and takes no column
pub hidden-told : (items : List ℕ) (len begin : ℕ) (bytes : List ℕ) (shown : Shown) (w : Waiting) → seen items len begin shown ≡ told w bytes → w.shown ≡ Colored → seen items len (begin + length bytes) shown ≡ controlled w bytes
unfolding told controlled
hidden-told items len begin bytes shown w is colored =
    let text : take len items ≡ w.text ++ bytes = ap (λ (x : Waiting). x.text) is in
    let before : len - begin ≡ w.columns + length bytes = ap (λ (x : Waiting). x.columns) is in
    let columns : len - (begin + length bytes) ≡ w.columns = omega (arith, before) in
    let same : shown ≡ w.shown = ap (λ (x : Waiting). x.shown) is in
    rw (text, columns, same) (ap (λ (s : Shown). record { text = w.text ++ control s bytes; columns = w.columns; shown = w.shown }) (sym colored))

pub hidden-none : (bytes : List ℕ) (w : Waiting) → w.shown ≡ Plain → w ≡ controlled w bytes
unfolding controlled
hidden-none bytes w plain =
    sym (ap (λ (s : Shown). record { text = w.text ++ control s bytes; columns = w.columns; shown = w.shown }) plain ∙ ap (λ (l : List ℕ). record { text = l; columns = w.columns; shown = w.shown }) (append-nil w.text))

-- a line does not get shorter
pub rises : (w after : Waiting) (ps : List Part) → after ≡ drawn_on w ps → w.columns ≤ after.columns
rises w after ps is = rw is (on-rises w ps)

pub ruleset drawing = (on-none, on-append, on-text, on-upto, on-past, on-begin_red, on-end_red)
