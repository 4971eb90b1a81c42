use Rattle.std.proofs.Common.{◌≡◌, ℕ, ◌<◌, List, length, arith, ap, sym, subst}
use Rattle.std.specs.List.{position_or_len}
use Rattle.bench_live.specs.Posting.{is_channel}
use Rattle.bench_live.proofs.Gone.{there, hands_set, line_done}
use Rattle.bench_live.proofs.posting.post_line.Goals as goal

pub post_to-requires : goal.post_to-requires
post_to-requires g c =
    let desk = c.args.desk.now in
    let low : c.place_of-place.result < length desk.channels.items =
    omega (arith, c.if-place-len.false, c.len.ensures, c.deref.ensures.len, ap length c.deref.ensures.value) in
    let box = there desk.boxes.items c.place_of-place.result c.index.result.now c.index.result.now (omega (arith, low, c.requires.hands.channels)) c.index.ensures in
    let hand = there c.args.hands.now.items c.place_of-place.result c.index_mut.result.now c.index_mut.result.now (omega (arith, low, c.requires.hands.channels, c.requires.hands.as_many)) c.index_mut.ensures.value in
    record { hand = c.requires.hands.each c.place_of-place.result c.index.result.now c.index_mut.result.now box hand }

pub returns-clause-hands : goal.returns-clause-hands
returns-clause-hands g c =
    let desk = c.args.desk.now in
    let low : c.place_of-place.result < length desk.channels.items =
    omega (arith, c.if-place-len.false, c.len.ensures, c.deref.ensures.len, ap length c.deref.ensures.value) in
    let box = there desk.boxes.items c.place_of-place.result c.index.result.now c.index.result.now (omega (arith, low, c.requires.hands.channels)) c.index.ensures in
    hands_set desk c.args.hands.now.items c.place_of-place.result c.index.result.now c.post_to.new.hand c.requires.hands (omega (arith, low, c.requires.hands.channels, c.requires.hands.as_many)) box c.post_to.ensures.hand

pub returns-clause-done : goal.returns-clause-done
returns-clause-done g c =
    let desk = c.args.desk.now in
    let low : c.place_of-place.result < length desk.channels.items =
    omega (arith, c.if-place-len.false, c.len.ensures, c.deref.ensures.len, ap length c.deref.ensures.value) in
    let within : c.place_of-place.result < length c.args.hands.now.items = omega (arith, low, c.requires.hands.channels, c.requires.hands.as_many) in
    let box = there desk.boxes.items c.place_of-place.result c.index.result.now c.index.result.now (omega (arith, low, c.requires.hands.channels)) c.index.ensures in
    let hand = there c.args.hands.now.items c.place_of-place.result c.index_mut.result.now c.index_mut.result.now within c.index_mut.ensures.value in
    line_done desk c.args.line.now c.args.hands.now.items c.place_of-place.result c.index.result.now c.index_mut.result.now c.post_to.new.hand c.in-Ok.post c.post_to.result
    (sym c.in-Ok.ensures) (subst (λ (l : List ℕ). c.place_of-place.result ≡ position_or_len (is_channel c.in-Ok.post.channel) l) c.deref.ensures.value c.place_of-place.ensures.value) box hand within
    c.post_to.ensures.posted c.post_to.ensures.refused
