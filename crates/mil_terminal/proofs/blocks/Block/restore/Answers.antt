use Rattle.std.proofs.Common.{◌≡◌, ℕ, ◌≤◌, List, ap, sym, ◌∙◌, arith, length, get_or, length-set}
use Rattle.std.specs.Prelude.{[]}
use Rattle.mil_terminal.specs.Slots.{entries}
use Rattle.mil_terminal.proofs.Unpacking.{all-left, next-left, left-more, none-left}
use Rattle.mil_terminal.proofs.blocks.Block.restore.Goals as goal

pub loop-head-init : goal.loop-head-init
loop-head-init c =
    let long : length c.args.saved.now ≡ 160 = ap (λ (lists : List (List ℕ)). length lists) (sym c.saved.view_is) ∙ c.saved.invariant.long in
    record {
      long = ap (λ (lists : List (List ℕ)). length lists) c.clear.ensures;
      left = all-left c.as_slice-rest.result.now c.args.saved.now c.clear.new.self 160
          (c.as_slice-rest.ensures.value ∙ c.saved.invariant.whole ∙ ap (λ (lists : List (List ℕ)). entries 0 lists) c.saved.view_is)
          c.clear.ensures long;
    }

pub split_at-requires : goal.split_at-requires
split_at-requires c =
    let few : (i : ℕ) → length (get_or c.args.saved.now i []) ≤ 32 = rw (← c.saved.view_is) c.saved.invariant.few in
    let next = next-left c.loop-head.rest.now c.args.saved.now c.loop-head.self c.in-Some.head.now c.in-Some.behind.now few c.in-Some.ensures.cases.0 c.loop-head.invariant.left in
    omega (arith, next.count, c.from-count.ensures)

pub store-requires : goal.store-requires
store-requires c =
    let few : (i : ℕ) → length (get_or c.args.saved.now i []) ≤ 32 = rw (← c.saved.view_is) c.saved.invariant.few in
    let next = next-left c.loop-head.rest.now c.args.saved.now c.loop-head.self c.in-Some.head.now c.in-Some.behind.now few c.in-Some.ensures.cases.0 c.loop-head.invariant.left in
    let long : length c.args.saved.now ≡ 160 = ap (λ (lists : List (List ℕ)). length lists) (sym c.saved.view_is) ∙ c.saved.invariant.long in
    record {
      slot = omega (arith, next.slot, c.from.ensures);
      few = omega (arith, next.few, c.from-count.ensures, c.split_at.ensures.front_len);
    }

pub loop-head-preserved : goal.loop-head-preserved
loop-head-preserved c =
    let few : (i : ℕ) → length (get_or c.args.saved.now i []) ≤ 32 = rw (← c.saved.view_is) c.saved.invariant.few in
    let next = next-left c.loop-head.rest.now c.args.saved.now c.loop-head.self c.in-Some.head.now c.in-Some.behind.now few c.in-Some.ensures.cases.0 c.loop-head.invariant.left in
    record {
      long = ap (λ (lists : List (List ℕ)). length lists) c.store.ensures ∙ length-set c.loop-head.self c.from.result c.split_at.result.0.now ∙ c.loop-head.invariant.long;
      left = left-more c.in-Some.head.now c.from-count.result c.from.result c.in-Some.behind.now c.split_at.result.0.now c.split_at.result.1.now c.args.saved.now c.loop-head.self c.store.new.self
          c.from-count.ensures c.from.ensures c.split_at.ensures.front c.split_at.ensures.back c.store.ensures next;
    }

pub returns : goal.returns
returns c = none-left c.loop-head.rest.now c.args.saved.now c.loop-head.self c.in_default.ensures.cases c.loop-head.invariant.left
