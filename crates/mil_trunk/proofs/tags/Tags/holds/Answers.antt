use Rattle.std.proofs.Common.{◌≡◌, ap, ◌∙◌, sym, arith, false, nat_lt}
use Rattle.std.proofs.lemmas.Bool.Decides.{nat_tests}
use Rattle.mil_trunk.specs.Tags.{has}
use Rattle.mil_trunk.proofs.Sets.{has_read, has_above}
use Rattle.mil_trunk.proofs.tags.Tags.holds.Goals as goal

pub returns-then-tag-lt64 : goal.returns-then-tag-lt64
returns-then-tag-lt64 c = has_read c.self.inside.bits c.args.tag ∙ ap (λ s. has s c.args.tag) c.self.view_is

pub returns-else-tag-lt64 : goal.returns-else-tag-lt64
returns-else-tag-lt64 c =
    let above = c.if-tag-lt64.false in
    let not_below : nat_lt c.args.tag 64 ≡ false = grind (arith, nat_tests) in
    let absent : has c.args.self c.args.tag ≡ false = ap (λ s. has s c.args.tag) (sym c.self.view_is) ∙ has_above c.self.inside.bits c.args.tag c.self.invariant above in
    not_below ∙ sym absent
