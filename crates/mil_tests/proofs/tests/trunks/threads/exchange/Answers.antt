use Rattle.std.proofs.Common.{◌≡◌, ◌<◌, ◌≤◌, ◌^◌, ℕ, ap, sym, ◌∙◌, arith, subst, length}
use Rattle.std.specs.Prelude.{Option, IfNone, slice_index_or}
use Rattle.std.proofs.lemmas.List.{get_or-replicate}
use Rattle.mil_trunk.specs.Ends.{sent, received}
use Rattle.mil_trunk.specs.Tags.{bound_of}
use Rattle.mil_trunk.specs.Views.{with_tag}
use Rattle.test_values.specs.declared.items.Item.{Item}
use Rattle.mil_tests.proofs.tests.trunks.threads.exchange.Goals as goal

pub in_scope-ended-requires-clause-bounds : goal.in_scope-ended-requires-clause-bounds
in_scope-ended-requires-clause-bounds g c κs within = λ k d below.
    let P : ℕ → Type 0 = λ b. length (slice_index_or c.args.lists.now k d).items ≤ b in
    let bound = ap (λ l. bound_of l k) c.in_ok-trunk.ensures.bounds ∙ get_or-replicate 64 k (2 ^ 55) 0 (let few = c.requires.few in omega (arith, few, below)) in
    subst P (sym bound) (c.requires.short k d below)

pub returns-in-None : goal.returns-in-None
returns-in-None g c = λ k d below.
    let settled = subst (λ (o : Option Item). IfNone o ((t : ℕ) → t < 64 → with_tag (λ (x : Item). x.tag) t (sent c.settle-last.result.0) ≡ with_tag (λ (x : Item). x.tag) t (received c.settle-last.result.1))) c.in-None.is c.settle-last.ensures.settled in
    let nothing_more = subst (λ (o : Option Item). IfNone o (received c.settle-last.result.1 ≡ received c.in_scope-ended.result.taker)) c.in-None.is c.settle-last.ensures.none in
    let few = c.requires.few in
    ap (with_tag (λ (x : Item). x.tag) k) (sym (nothing_more ∙ c.in_scope-ended.ensures.taken)) ∙ sym (settled k (omega (arith, few, below)))
    ∙ ap (with_tag (λ (x : Item). x.tag) k) c.settle-last.ensures.sent ∙ c.in_scope-ended.ensures.sent c.if-not-whole.false k d below
