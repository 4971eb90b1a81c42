use Rattle.std.proofs.Common.{◌≡◌, ◌≤◌, ◌<◌, [], ◌∷◌, ◌++◌, length, refl, sym, ap, subst, ◌∙◌, arith}
use Rattle.ch11_builder.specs.Packet.{Numbered, packet_length, last_number}
use Rattle.ch11_builder.specs.Built.{State, records_of}
use Rattle.ch11_builder.proofs.OneMore.{size_more, last_number_more, first_stamp_more, gap_more, length_more, body_more, refilled, choose_low}
use Rattle.ch11_builder.proofs.packing.Packing.keep.Goals as goal

pub put_behind-self-inside-requires-clause-room : goal.put_behind-self-inside-requires-clause-room
put_behind-self-inside-requires-clause-room c =
    let n : Numbered = record { number = c.args.number; message = c.args.message.now } in
    let room : packet_length (records_of c.self.inside ++ n ∷ []) ≤ c.self.inside.limit = subst (λ (s : State). packet_length (s.held.records ++ n ∷ []) ≤ s.held.channel.limit) (sym c.self.view_is) c.requires.room in
    omega (arith, room, size_more (records_of c.self.inside) n, c.self.invariant.used, c.self.invariant.open_room, ap length c.deref_mut.ensures.value)

pub invariant_of-self : goal.invariant_of-self
invariant_of-self c =
    let ns = records_of c.self.inside in
    let n : Numbered = record { number = c.args.number; message = c.args.message.now } in
    let room : packet_length (records_of c.self.inside ++ n ∷ []) ≤ c.self.inside.limit = subst (λ (s : State). packet_length (s.held.records ++ n ∷ []) ≤ s.held.channel.limit) (sym c.self.view_is) c.requires.room in
    let above : last_number c.self.inside.before (records_of c.self.inside) < c.args.number = subst (λ (s : State). last_number s.held.before s.held.records < c.args.number) (sym c.self.view_is) c.requires.number in
    let now : c.put_behind-2.result ≡ records_of c.self.inside ++ n ∷ [] = rw (c.put_behind-2.ensures, c.of.ensures) refl in
    let long : length c.put_behind-self-inside.new.buffer ≡ c.self.inside.limit = omega (arith, c.put_behind-self-inside.auto.buffer, ap length c.deref_mut.ensures.value, c.self.invariant.open_room) in
    let new = refilled c.self.inside.filling.len c.put_behind-self-inside.new.buffer c.self.inside.filling.items (long ∙ sym c.self.invariant.open_len) in
    record {
      low = c.self.invariant.low;
      high = c.self.invariant.high;
      open_room = rw new long;
      open_len = c.self.invariant.open_len;
      done_len = c.self.invariant.done_len;
      done_room = c.self.invariant.done_room;
      used = rw now (omega (arith, size_more (records_of c.self.inside) n, c.self.invariant.used, c.put_behind-self-inside.ensures.size));
      within = rw now room;
      finished = c.self.invariant.finished;
      body = rw (now, new, c.put_behind-self-inside.ensures.bytes) (body_more c.deref_mut.result.now c.self.inside.used (records_of c.self.inside) n (omega (arith, c.self.invariant.used)) (omega (arith, c.self.invariant.used, c.self.invariant.within, c.self.invariant.open_room, ap length c.deref_mut.ensures.value)) (rw c.deref_mut.ensures.value c.self.invariant.body));
      count = rw now (omega (arith, length_more (records_of c.self.inside) n, c.self.invariant.count));
      count_low = omega (arith, c.self.invariant.count_low, c.put_behind-self-inside.ensures.size);
      first = rw (now, c.first_of-self-inside.ensures, c.self.invariant.first) (first_stamp_more c.self.inside.count (records_of c.self.inside) n c.self.invariant.count);
      first_low = rw c.first_of-self-inside.ensures (choose_low _ _ _ c.requires.stamp c.self.invariant.first_low);
      last = rw now (sym (last_number_more c.self.inside.before (records_of c.self.inside) n));
      overflow = rw (now, c.jumps-self-inside.ensures, c.self.invariant.overflow, c.self.invariant.last) (gap_more c.self.inside.before (records_of c.self.inside) n);
      place = c.self.invariant.place;
      before_low = omega (arith, above, c.self.invariant.before_low, c.self.invariant.last);
    }
