-- Tallies of nothing, and the verdicts that tallies come to.
use Rattle.std.proofs.Common.{◌≡◌, ℕ, zero, suc, ◌+◌, ◌<◌, List, [], ◌∷◌, ◌++◌, length, take, refl, ap, sym, ◌∙◌, subst, arith, length-append}
use Rattle.std.specs.Prelude.{Some, slice_get}
use Rattle.judge_rules.specs.declared.rules.Rule.{Rule}
use Rattle.bench_judge.specs.declared.tallies.Tally.{Tally}
use Rattle.bench_judge.specs.declared.verdicts.RuleVerdict.{RuleVerdict}
use Rattle.bench_judge.specs.declared.packets.PacketTally.{PacketTally}
use Rattle.bench_judge.specs.Packets.{IsPacketTally}
use Rattle.bench_judge.specs.Verdicts.{IsVerdict, IsVerdictWith, AreVerdicts, Passed, of_these}
use Rattle.bench_judge.specs.Tallies.{IsTally}

-- an element of a list with one more: one of the list, or the last
pub data Place (X : Type 0) (xs : List X) (x : X) (k : ℕ) (y : X) : Type 0 where
  Earlier : k < length xs → slice_get xs k ≡ Some y → Place X xs x k y
  Last : k ≡ length xs → x ≡ y → Place X xs x k y

later : {X : Type 0} (x : X) (xs : List X) (last : X) (k : ℕ) (y : X) → Place X xs last k y → Place X (x ∷ xs) last (suc k) y
later x xs last k y (Earlier within there) = Earlier (omega (arith, within)) there
later x xs last k y (Last at is) = Last (ap suc at) is

pub place_of : {X : Type 0} (xs : List X) (x : X) (k : ℕ) (y : X) → slice_get (xs ++ x ∷ []) k ≡ Some y → Place X xs x k y
place_of [] x zero y is = Last refl cc
place_of [] x (suc k) y is = absurd cc
place_of (z ∷ zs) x zero y is = Earlier (omega arith) is
place_of (z ∷ zs) x (suc k) y is = later z zs x k y (place_of zs x k y is)

-- each tally is one of a kind
pub record AreNew {R T : Type 0} (new : R → T → Type 0) (tallies : List T) : Type 0 where
  pub each : (k : ℕ) (tally : T) → slice_get tallies k ≡ Some tally → (rule : R) → new rule tally

pub new-none : {R T : Type 0} (new : R → T → Type 0) → AreNew new []
new-none new = record { each = λ k tally there. absurd cc }

pub new-more : {R T : Type 0} (new : R → T → Type 0) (tallies : List T) (tally : T) → AreNew new tallies → ((rule : R) → new rule tally) → AreNew new (tallies ++ tally ∷ [])
new-more {R} {T} new tallies tally are one = record { each = λ k other there rule. go k other rule (place_of tallies tally k other there) }
  where
    go : (k : ℕ) (other : T) (rule : R) → Place T tallies tally k other → new rule other
    go k other rule (Earlier within there) = are.each k other there rule
    go k other rule (Last at is) = subst (new rule) is (one rule)

pub take_more : {X : Type 0} (xs : List X) (k : ℕ) (x : X) → slice_get xs k ≡ Some x → take (suc k) xs ≡ take k xs ++ x ∷ []
take_more [] k x is = absurd cc
take_more (y ∷ ys) zero x is = let same : y ≡ x = cc in rw same refl
take_more (y ∷ ys) (suc k) x is = rw (take_more ys k x is) refl

-- the rules so far have their verdicts
pub record IsJudging (rules : List Rule) (p : Passed) (verdicts : List RuleVerdict) (place : ℕ) : Type 0 where
  pub many : length verdicts ≡ place
  pub each : (k : ℕ) (rule : Rule) (verdict : RuleVerdict) → slice_get rules k ≡ Some rule → slice_get verdicts k ≡ Some verdict → IsVerdict rule p verdict

pub judging-none : (rules : List Rule) (p : Passed) → IsJudging rules p [] 0
judging-none rules p = record { many = refl; each = λ k rule verdict there has. absurd cc }

some_same : {X : Type 0} (x y : X) → Some x ≡ Some y → x ≡ y
some_same x y is = cc

pub judging-more : (rules : List Rule) (p : Passed) (verdicts : List RuleVerdict) (place : ℕ) (rule : Rule) (verdict : RuleVerdict) → IsJudging rules p verdicts place → slice_get rules place ≡ Some rule → IsVerdict rule p verdict
    → IsJudging rules p (verdicts ++ verdict ∷ []) (place + 1)
judging-more rules p verdicts place rule verdict j there one = record {
  many = omega (arith, length-append verdicts (verdict ∷ []), j.many);
  each = λ k r v asked has. go k r v asked (place_of verdicts verdict k v has);
}
  where
    go : (k : ℕ) (r : Rule) (v : RuleVerdict) → slice_get rules k ≡ Some r → Place RuleVerdict verdicts verdict k v → IsVerdict r p v
    go k r v asked (Earlier within has) = j.each k r v asked has
    go k r v asked (Last at is) =
        let same : rule ≡ r = some_same rule r (sym there ∙ ap (slice_get rules) (sym j.many ∙ sym at) ∙ asked) in
        subst (λ (x : Rule). IsVerdict x p v) same (subst (IsVerdict rule p) is one)

pub judging-all : (rules : List Rule) (p : Passed) (verdicts : List RuleVerdict) (place : ℕ) → place ≡ length rules → IsJudging rules p verdicts place → AreVerdicts rules p verdicts
judging-all rules p verdicts place whole j = record { many = j.many ∙ whole; each = j.each }

-- the verdict that tallies come to
pub verdict_on : (rule : Rule) (p : Passed) (messages : Tally) (packets : PacketTally) (verdict : RuleVerdict) → IsTally rule p.origins p.messages messages → IsPacketTally rule p.packets packets
    → IsVerdictWith rule (of_these rule messages.selected packets.selected) messages.counted (of_these rule messages.missed packets.missed) verdict → IsVerdict rule p verdict
verdict_on rule p messages packets verdict m t with = rw (m.selected, m.counted, m.missed, t.selected, t.missed) at with
