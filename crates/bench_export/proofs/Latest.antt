-- What a line shows behind changes, where one more comes, and what a reader has of it.
use Rattle.std.proofs.Common.{◌≡◌, ◌≢◌, ℕ, ◌+◌, ◌*◌, ◌==◌, ◌<◌, ◌≤◌, nat_lt, Bool, true, false, not, ◌&&◌, if◌then◌else◌, List, [], ◌∷◌, ◌++◌, length, get_or, set, reverse, refl, sym, ap, ◌∙◌, append_assoc, arith}
use Rattle.std.specs.List.{find}
use Rattle.std.specs.Prelude.{Option, Some, None, option_map, unwrap_or}
use Rattle.std.proofs.lemmas.Bool.Decides.{nat_tests}
use Rattle.std.proofs.lemmas.List.{append-nil, get_or-set_same, get_or-set_other, get_or_past, reverse-append}
use Rattle.bench_export.specs.Merging.{AreShown, kept_at}
use Rattle.bench_export.specs.Showing.{Signals, error_if, idle, is_of, is_same, read_on, ReadAsShown, shown_behind, shown_of, signals_of, taken, told_if, told_in}
use Rattle.bench_export.specs.declared.changes.Change.{Change}
use Rattle.bench_export.specs.declared.lines.Shown.{Shown}

-- ---- one more change

found_first : (t : Bool) (c : Change) (rest : Option Change) → unwrap_or (option_map shown_of (if t then Some c else rest)) idle ≡ (if t then shown_of c else unwrap_or (option_map shown_of rest) idle)
found_first true c rest = refl
found_first false c rest = refl

pub shown_more : (on_b : Bool) (channel : ℕ) (cs : List Change) (c : Change) → shown_behind on_b channel (cs ++ c ∷ []) ≡ (if is_of on_b channel c then shown_of c else shown_behind on_b channel cs)
unfolding shown_behind
shown_more on_b channel cs c =
    ap (λ (l : List Change). unwrap_or (option_map shown_of (find (is_of on_b channel) l)) idle) (reverse-append cs (c ∷ []))
    ∙ found_first (is_of on_b channel c) c (find (is_of on_b channel) (reverse cs))

-- ---- where a line is kept

abbrev pub place_at : Bool → ℕ → ℕ
place_at on_b channel = channel * 2 + (if on_b then 1 else 0)

same_place : (x y : Bool) (m n : ℕ) → ((n == m) && (if x then y else not y)) ≡ true → place_at x m ≡ place_at y n
same_place true true m n e = grind (arith, nat_tests)
same_place false false m n e = grind (arith, nat_tests)
same_place true false m n e = grind (arith, nat_tests)
same_place false true m n e = grind (arith, nat_tests)

other_place : (x y : Bool) (m n : ℕ) → ((n == m) && (if x then y else not y)) ≡ false → place_at x m ≢ place_at y n
other_place true true m n e same = grind (arith, nat_tests)
other_place false false m n e same = grind (arith, nat_tests)
other_place true false m n e same = omega arith
other_place false true m n e same = omega arith

pub none_shown : (lines : List Shown) → lines ≡ [] → AreShown lines []
unfolding shown_behind
none_shown lines e on_b channel = ap (λ (l : List Shown). get_or l (place_at on_b channel) idle) e

-- lines up to more places show what they did
pub reached : (old new : List Shown) (n : ℕ) → length old ≤ n → length new ≡ n → ((k : ℕ) → k < n → k < length old → get_or new k idle ≡ get_or old k idle)
    → ((k : ℕ) → length old ≤ k → k < n → get_or new k idle ≡ idle) → (k : ℕ) → get_or new k idle ≡ get_or old k idle
reached old new n more long kept filled k = go (nat_lt k (length old)) refl (nat_lt k n) refl
  where
    go : (a : Bool) → nat_lt k (length old) ≡ a → (b : Bool) → nat_lt k n ≡ b → get_or new k idle ≡ get_or old k idle
    go true a b also =
        let old_one : k < length old = grind (arith, nat_tests) in
        kept k (omega (arith, old_one, more)) old_one
    go false a true b =
        let past : length old ≤ k = grind (arith, nat_tests) in
        let below : k < n = grind (arith, nat_tests) in
        filled k past below ∙ sym (get_or_past old k idle past)
    go false a false b =
        let past : length old ≤ k = grind (arith, nat_tests) in
        let beyond : n ≤ k = grind (arith, nat_tests) in
        get_or_past new k idle (omega (arith, long, beyond)) ∙ sym (get_or_past old k idle past)

-- what a line shows from a change on is set where it is kept
pub noted : (old grown : List Shown) (cs : List Change) (c : Change) → place_at c.on_b c.channel < length grown → ((k : ℕ) → get_or grown k idle ≡ get_or old k idle) → AreShown old cs
    → AreShown (set grown (place_at c.on_b c.channel) (shown_of c)) (cs ++ c ∷ [])
noted old grown cs c within same shown on_b channel =
    here (is_of on_b channel c) (λ e. same_place on_b c.on_b channel c.channel e) (λ e. other_place on_b c.on_b channel c.channel e)
    ∙ sym (shown_more on_b channel cs c)
  where
    here : (t : Bool) → (t ≡ true → place_at on_b channel ≡ place_at c.on_b c.channel) → (t ≡ false → place_at on_b channel ≢ place_at c.on_b c.channel)
        → get_or (set grown (place_at c.on_b c.channel) (shown_of c)) (place_at on_b channel) idle ≡ (if t then shown_of c else shown_behind on_b channel cs)
    here true equal other =
        ap (λ (k : ℕ). get_or (set grown (place_at c.on_b c.channel) (shown_of c)) k idle) (equal refl)
        ∙ get_or-set_same grown (place_at c.on_b c.channel) (shown_of c) idle within
    here false equal other =
        get_or-set_other grown (place_at c.on_b c.channel) (place_at on_b channel) (shown_of c) idle (other refl)
        ∙ same (place_at on_b channel) ∙ shown on_b channel

-- ---- what a reader has

told_kept : (x y : Option ℕ) → unwrap_or (told_if x y) x ≡ y
told_kept None None = refl
told_kept None (Some b) = refl
told_kept (Some a) None = refl
told_kept (Some a) (Some b) = either (a == b) (λ e. grind (arith, nat_tests))
  where
    either : (t : Bool) → (t ≡ true → a ≡ b) → unwrap_or (if t then None else Some (Some b)) (Some a) ≡ Some b
    either true equal = ap (λ (n : ℕ). Some n) (equal refl)
    either false equal = refl

error_kept : (x y : Bool) → unwrap_or (error_if x y) x ≡ y
error_kept true true = refl
error_kept true false = refl
error_kept false true = refl
error_kept false false = refl

signals : Option ℕ → Option ℕ → Option ℕ → Option ℕ → Bool → Signals
signals word kind terminal message error = record { word = word; kind = kind; terminal = terminal; message = message; error = error }

taken_told : (b n : Shown) → taken (signals_of b) (told_in b n) ≡ signals_of n
unfolding signals
taken_told b n =
    let was = signals_of b in
    let now = signals_of n in
    let kind = unwrap_or (told_if was.kind now.kind) was.kind in
    let terminal = unwrap_or (told_if was.terminal now.terminal) was.terminal in
    let message = unwrap_or (told_if was.message now.message) was.message in
    ap (λ e. signals now.word kind terminal message e) (error_kept b.error n.error)
    ∙ ap (λ m. signals now.word kind terminal m now.error) (told_kept was.message now.message)
    ∙ ap (λ t. signals now.word kind t now.message now.error) (told_kept was.terminal now.terminal)
    ∙ ap (λ k. signals now.word k now.terminal now.message now.error) (told_kept was.kind now.kind)

one_read : (on_b : Bool) (channel : ℕ) (had : Signals) (earlier : List Change) (c : Change) → had ≡ signals_of (shown_behind on_b channel earlier)
    → (if is_of on_b channel c then taken had (told_in (shown_behind on_b channel earlier) (shown_of c)) else had) ≡ signals_of (shown_behind on_b channel (earlier ++ c ∷ []))
one_read on_b channel had earlier c e = here (is_of on_b channel c) ∙ ap signals_of (sym (shown_more on_b channel earlier c))
  where
    before : Shown
    before = shown_behind on_b channel earlier

    here : (t : Bool) → (if t then taken had (told_in before (shown_of c)) else had) ≡ signals_of (if t then shown_of c else before)
    here true = ap (λ (s : Signals). taken s (told_in before (shown_of c))) e ∙ taken_told before (shown_of c)
    here false = e

all_read : (on_b : Bool) (channel : ℕ) (had : Signals) (earlier cs : List Change) → had ≡ signals_of (shown_behind on_b channel earlier)
    → read_on on_b channel had earlier cs ≡ signals_of (shown_behind on_b channel (earlier ++ cs))
all_read on_b channel had earlier [] e = e ∙ ap (λ (l : List Change). signals_of (shown_behind on_b channel l)) (sym (append-nil earlier))
all_read on_b channel had earlier (c ∷ cs) e =
    all_read on_b channel (if is_of on_b channel c then taken had (told_in (shown_behind on_b channel earlier) (shown_of c)) else had) (earlier ++ c ∷ []) cs
    (one_read on_b channel had earlier c e)
    ∙ ap (λ (l : List Change). signals_of (shown_behind on_b channel l)) (append_assoc earlier (c ∷ []) cs)

pub read_as_shown : ReadAsShown
unfolding shown_behind
read_as_shown on_b channel cs = all_read on_b channel (signals_of idle) [] cs refl
