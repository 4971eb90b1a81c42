-- One more to count.
use Rattle.std.proofs.Common.{◌≡◌, ℕ, ◌+◌, ◌==◌, Bool, true, false, if◌then◌else◌, List, ◌∷◌, length, sym, ap, ◌∙◌, arith}
use Rattle.std.specs.List.{sum_by, count_by}
use Rattle.std.proofs.lemmas.List.Sums.{sum_by-cons}
use Rattle.bench_stat.specs.declared.calls.Call.{Call}
use Rattle.bench_stat.specs.declared.terminals.TerminalFigures.{TerminalFigures}
use Rattle.ch11_reader.specs.Contents.{capped}
use Rattle.bench_stat.specs.Figures.{one_if, is_receive_call, is_transmit_call, is_mode_call, responses, figures_of, least, greatest}
use Rattle.bench_stat.specs.Steps.{with_kind, with_response, with_call}

-- what was counted so far, and some more
pub capped_more : (x y : ℕ) → capped (capped x + y) ≡ capped (y + x)
capped_more x y = omega arith

pub counted_more : {X : Type 0} (p : X → Bool) (x : X) (xs : List X) → capped (capped (count_by p xs) + one_if (p x)) ≡ capped (count_by p (x ∷ xs))
counted_more {X} p x xs = capped_more (count_by p xs) (one_if (p x)) ∙ ap capped (sym (sum_by-cons (λ (y : X). one_if (p y)) x xs))

pub summed_more : {X : Type 0} (f : X → ℕ) (x : X) (xs : List X) → capped (capped (sum_by f xs) + f x) ≡ capped (sum_by f (x ∷ xs))
summed_more f x xs = capped_more (sum_by f xs) (f x) ∙ ap capped (sym (sum_by-cons f x xs))

pub one_more : {X : Type 0} (x : X) (xs : List X) → capped (capped (length xs) + 1) ≡ capped (length (x ∷ xs))
one_more x xs = omega arith

-- the figures of a terminal with these calls and response times
abbrev figures_with : List Call → List ℕ → TerminalFigures
figures_with cs rs = record {
  receive = capped (count_by is_receive_call cs);
  transmit = capped (count_by is_transmit_call cs);
  mode = capped (count_by is_mode_call cs);
  errors = capped (count_by (λ (c : Call). c.failed) cs);
  responses = capped (length rs);
  total = capped (sum_by (λ n. n) rs);
  least = least 255 rs;
  greatest = greatest rs;
}

with_kind_more : (c : Call) (cs : List Call) (rs : List ℕ) → with_kind c (figures_with cs rs) ≡ figures_with (c ∷ cs) rs
with_kind_more c cs rs =
    let a = counted_more is_receive_call c cs in
    let b = counted_more is_transmit_call c cs in
    let d = counted_more is_mode_call c cs in
    let e = counted_more (λ (x : Call). x.failed) c cs in
    cc

with_response_more : (n : ℕ) (cs : List Call) (rs : List ℕ) → with_response n (figures_with cs rs) ≡ figures_with cs (n ∷ rs)
with_response_more n cs rs =
    let a = one_more n rs in
    let b = summed_more (λ (x : ℕ). x) n rs in
    cc

with_call_by : (c : Call) (cs : List Call) (rs : List ℕ) (none : Bool) → (if none then with_kind c (figures_with cs rs) else with_response c.response (with_kind c (figures_with cs rs)))
    ≡ figures_with (c ∷ cs) (if none then rs else c.response ∷ rs)
with_call_by c cs rs true = with_kind_more c cs rs
with_call_by c cs rs false = ap (with_response c.response) (with_kind_more c cs rs) ∙ with_response_more c.response (c ∷ cs) rs

pub with_call_more : (c : Call) (cs : List Call) → with_call c (figures_of cs) ≡ figures_of (c ∷ cs)
with_call_more c cs = with_call_by c cs (responses cs) (c.response == 0)
