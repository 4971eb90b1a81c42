use Rattle.std.proofs.Common.{◌≡◌, List, ap, subst, arith, length, take, reverse}
use Rattle.std.proofs.lemmas.List.{take_all}
use Rattle.ch11_reader.specs.Recording.{Found}
use Rattle.bench_select.specs.Viewed.{viewed_in, Viewed}
use Rattle.bench_dump.proofs.Packets.{no_packet, at_place, same_count}
use Rattle.bench_decode.specs.ByTime.{AreChosen}
use Rattle.bench_decode.proofs.Passing.{before_packet, packets-more}
use Rattle.bench_decode.proofs.chosen.chosen_messages.Goals as goal

pub messages_in-requires : goal.messages_in-requires
messages_in-requires c = omega (arith, same_count c.args.index.now c.packets-packets.result.now c.packets-packets.ensures.listed, c.packets-test.true)

pub choose_all-requires : goal.choose_all-requires
choose_all-requires c =
    let at = at_place c.args.index.now c.packets-packets.result.now c.packets.place no_packet c.packets-packets.ensures.listed c.packets-test.true in
    omega (arith, at.before, at.few, ap length (c.messages_in.ensures at.packet at.there), c.packets-packets.ensures.few)

pub packets-preserved : goal.packets-preserved
packets-preserved c =
    let at = at_place c.args.index.now c.packets-packets.result.now c.packets.place no_packet c.packets-packets.ensures.listed c.packets-test.true in
    let history = reverse (viewed_in (take c.packets.place c.args.index.now)) in
    let more = rw (c.messages_in.ensures at.packet at.there) at c.in_ok-choose_all.ensures history c.packets.invariant (before_packet c.args.index.now c.packets.place _ at) in
    packets-more (λ (hs : List Viewed). AreChosen c.args.selection.now hs c.choose_all.new.self) c.args.index.now c.packets.place _ at more

pub returns : goal.returns
returns c =
    let whole : take c.packets.place c.args.index.now ≡ c.args.index.now = take_all c.packets.place c.args.index.now (omega (arith, same_count c.args.index.now c.packets-packets.result.now c.packets-packets.ensures.listed, c.packets-test.false)) in
    (subst (λ (ps : List Found). AreChosen c.args.selection.now (reverse (viewed_in ps)) c.packets.choosing) whole c.packets.invariant).found
