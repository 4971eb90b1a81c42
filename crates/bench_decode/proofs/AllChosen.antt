-- Where nothing is asked, all messages are chosen.
use Rattle.std.proofs.Common.{◌≡◌, ℕ, Bool, true, false, not, ◌&&◌, Option, None, Some, refl, sym, ◌∙◌}
use Rattle.ch11_layout.specs.Stamps.{Recorded}
use Rattle.bench_select.specs.Selecting.{is_all, is_none, selects}
use Rattle.bench_select.specs.declared.selection.Selection.{Selection}

none_is : {A : Type 0} (x : Option A) → is_none x ≡ true → x ≡ None
none_is None e = refl
none_is (Some x) e = absurd cc

both : (a b : Bool) → (a && b) ≡ true → (a ≡ true) × (b ≡ true)
both true b e = (refl, e)
both false b e = absurd cc

not_true : (b : Bool) → not b ≡ true → b ≡ false
not_true true e = absurd cc
not_true false e = refl

all_selected : (s : Selection) (n channel : ℕ) (m : Recorded) → is_all s ≡ true → selects s n channel m ≡ true
all_selected s n channel m all =
    let to = both _ (is_none s.to) all in
    let first = both _ (is_none s.from) to.0 in
    let errors = both _ (not s.errors) first.0 in
    let signal = both _ (is_none s.signal) errors.0 in
    let selector = both _ (is_none s.selector) signal.0 in
    let line = both (is_none s.channel) (is_none s.line) selector.0 in
    rw (none_is s.channel line.0, none_is s.line line.1, not_true s.errors errors.1, none_is s.from first.1, none_is s.to to.1, none_is s.selector selector.1, none_is s.signal signal.1) refl

-- so the test need not be made
pub all_are : (s : Selection) (n channel : ℕ) (m : Recorded) (all : Bool) → all ≡ is_all s → all ≡ true → true ≡ selects s n channel m
all_are s n channel m all is so = sym (all_selected s n channel m (sym is ∙ so))
