use Rattle.std.proofs.Common.{◌≡◌, ℕ, List, true, false, [], ◌∷◌, ◌++◌, ap, append-nil, arith, sym, ◌∙◌}
use Rattle.bench_draw.specs.declared.track.Track.{Track}
use Rattle.bench_draw.specs.declared.track.Track.TheVariants.{Terminal}
use Rattle.bench_draw.specs.Lanes.{is_called, lanes_below}
use Rattle.bench_draw.proofs.Calling.{one_called, one_not_called}
use Rattle.bench_draw.proofs.called.Called.tracks.Goals as goal
use Rattle.bench_draw.proofs.called.Called.tracks.Goals.{then-self-from+in_ok-push, else-self-from}

pub addresses-preserved : goal.addresses-preserved
addresses-preserved c = elim c.if-self-from.branch [
  | then-self-from+in_ok-push w ↦
      let self = c.args.self.now in
      let n = c.addresses.address in
      let same : c.if-self-from.tracks.items ≡ w.push.new.self.items = cc in
      let is : is_called self n ≡ true = ap (λ (m : ℕ). is_called self m) (sym c.from.ensures) ∙ w.if-self-from.true in
      same ∙ w.in_ok-push.ensures.items ∙ ap (λ (ts : List Track). ts ++ Terminal n ∷ []) c.addresses.invariant ∙ sym (one_called self n is)
  | else-self-from w ↦
      let self = c.args.self.now in
      let n = c.addresses.address in
      let same : c.if-self-from.tracks.items ≡ c.addresses.tracks.items = cc in
      let is : is_called self n ≡ false = ap (λ (m : ℕ). is_called self m) (sym c.from.ensures) ∙ w.if-self-from.false in
      same ∙ c.addresses.invariant ∙ sym (append-nil (lanes_below self n)) ∙ sym (one_not_called self n is)
]

pub returns : goal.returns
returns c =
    let all : c.addresses.address ≡ 32 = omega (arith, c.addresses-test.false, c.addresses.auto.address-end) in
    c.addresses.invariant ∙ ap (λ (n : ℕ). lanes_below c.args.self.now n) all
