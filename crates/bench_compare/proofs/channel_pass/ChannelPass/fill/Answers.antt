use Rattle.std.proofs.Common.{ap, subst, sym, ◌∙◌}
use Rattle.bench_compare.specs.Passes.{IsUnderWay, Passing, pass_to_come}
use Rattle.bench_compare.proofs.Coming.{fault_of, way_on}
use Rattle.bench_compare.proofs.Keeping.{kept_end, kept_on, kept_some}
use Rattle.bench_compare.proofs.channel_pass.ChannelPass.fill.Goals as goal

pub packets-init : goal.packets-init
packets-init g c = λ file ps way read.
    (subst (λ (l : Passing). IsUnderWay file l.reading) (sym c.self.view_is) way, ap (λ (l : Passing). pass_to_come c.args.choice.selection.now c.args.choice.channel ps l) (sym c.self.view_is))

pub returns-then-not-is_empty : goal.returns-then-not-is_empty
returns-then-not-is_empty g c = λ file ps way read.
    let so_far = c.packets.invariant file ps way read in
    let pass : Passing = record { reading = c.packets.self-inside.packets; kept = c.packets.self-inside.kept.items } in
    kept_some c.args.choice.selection.now c.args.choice.channel file ps c.args.self.now pass c.packets.self-inside.kept.len c.packets.self-inside.kept.ok.0 (sym c.if-not-is_empty.true ∙ c.is_empty.ensures) so_far.0 so_far.1

pub packets-preserved : goal.packets-preserved
packets-preserved g c = λ file ps way read.
    let step = rw c.in-Ok-Some.field-0-is at c.in-Ok-Some.ensures in
    let so_far = c.packets.invariant file ps way read in
    let before : Passing = record { reading = c.packets.self-inside.packets; kept = c.packets.self-inside.kept.items } in
    let now : Passing = record { reading = c.next.new.self; kept = c.keep_packet.new.kept.items } in (
      way_on file before.reading now.reading c.in-Ok-Some.packet step so_far.0,
      so_far.1 ∙ kept_on c.args.choice.selection.now c.args.choice.channel file ps before now c.in-Ok-Some.packet step read so_far.0 (rw c.messages-messages.ensures at c.in_ok-keep_packet-in-Ok-Some.ensures),
    )

pub returns-in-Ok-None : goal.returns-in-Ok-None
returns-in-Ok-None g c = λ file ps way read.
    let e = rw c.in-Ok-None.field-0-is at c.in-Ok-None.ensures in
    let so_far = c.packets.invariant file ps way read in
    kept_end c.args.choice.selection.now c.args.choice.channel file ps c.args.self.now c.packets.self-inside.kept.items c.packets.self-inside.packets c.next.new.self c.packets.self-inside.kept.len c.packets.self-inside.kept.ok.0 (sym c.if-not-is_empty.false ∙ c.is_empty.ensures) e read so_far.0 so_far.1

pub returns-in-Err : goal.returns-in-Err
returns-in-Err g c = λ file ps way read. fault_of file c.packets.self-inside.packets c.next.new.self c.in-Err.fault c.in-Err.ensures (c.packets.invariant file ps way read).0
