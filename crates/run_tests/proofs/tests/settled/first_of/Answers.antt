use Rattle.std.proofs.Common.{◌≡◌, ap, ◌∙◌, sym, ◌++◌}
use Rattle.std.specs.Prelude.{Some, slice_get}
use Rattle.std.specs.Option.{option_to_list}
use Rattle.std.specs.Vec.Iter.{into_iter_items}
use Rattle.run_tests.proofs.tests.settled.first_of.Goals as goal

pub returns : goal.returns
returns g c =
    let whole = sym c.into_iter-inboxes.ensures.rest ∙ c.next.ensures.items ∙ ap (λ o. option_to_list o ++ into_iter_items c.next.new.self) c.expect.ensures in
    let at : slice_get c.args.inboxes.items 0 ≡ Some c.expect.result = ap (λ l. slice_get l 0) whole in
    c.requires.inboxes 0 c.args.mailbox.now c.expect.result (ap (λ l. slice_get l 0) c.requires.boxes) at
