use Rattle.std.proofs.Common.{◌≡◌, ◌+◌, ◌∙◌, Bool, true, false, cond, ap, refl, arith}
use mir.Val.{bool_byte}
use Rattle.ch11_f1.specs.Views.{message_of}
use Rattle.bench_compare.proofs.Counted.{goes_on, room}
use Rattle.bench_compare.proofs.counting.count_chosen.Goals as goal

one_or : (b : Bool) → bool_byte b ≡ cond b 1 0
one_or true = refl
one_or false = refl

pub overflow_add-count : goal.overflow_add-count
overflow_add-count c =
    let s = c.args.selection.now in
    let own = c.args.packet.now.header.channel in
    let after = c.messages.count + c.from-count.result in
    let more = goes_on s c.of-kind.result c.args.packet.now.before c.messages.number own c.args.messages c.messages.rest c.next.new.self (message_of c.in-Some.seen) c.selects-chosen.result c.messages.count after c.messages.invariant c.in-Some.ensures.steps (rw c.of.ensures at c.selects-chosen.ensures) (ap (λ n. c.messages.count + n) (c.from-count.ensures ∙ one_or c.selects-chosen.result)) in
    omega (arith, c.requires, room s c.of-kind.result c.args.packet.now.before (c.messages.number + 1) own c.args.messages c.next.new.self after more)
