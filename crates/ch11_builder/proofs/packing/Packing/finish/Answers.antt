use Rattle.std.proofs.Common.{◌≡◌, ℕ, ◌-◌, ◌<◌, List, [], length, take, drop, cond, refl, sym, ap, subst, ◌∙◌, arith}
use Rattle.std.proofs.lemmas.List.{drop_all, length-take}
use Rattle.std.specs.List.{flat_map}
use Rattle.ch11_f1.specs.BodyBytes.{record_bytes}
use Rattle.ch11_builder.specs.Packet.{messages_of, padded}
use Rattle.ch11_builder.specs.Held.{Held, closed}
use Rattle.ch11_builder.specs.Built.{State, state_of, records_of}
use Rattle.ch11_builder.proofs.OneMore.{refilled, packet_from}
use Rattle.ch11_builder.proofs.packing.Packing.finish.Goals as goal

pub invariant_of-self : goal.invariant_of-self
invariant_of-self c =
    let some : 0 < length (records_of c.self.inside) = subst (λ (s : State). 0 < length s.held.records) (sym c.self.view_is) c.requires in
    let now : c.none.result ≡ [] = c.none.ensures in
    let long : length c.seal-self-inside.new.buffer ≡ c.self.inside.limit = omega (arith, c.seal-self-inside.auto.buffer, ap length c.deref_mut.ensures.value, c.self.invariant.open_room) in
    let new = refilled c.self.inside.filling.len c.seal-self-inside.new.buffer c.self.inside.filling.items (long ∙ sym c.self.invariant.open_len) in
    record {
      low = c.self.invariant.low;
      high = c.self.invariant.high;
      open_room = rw c.swap.ensures.x_after c.self.invariant.done_room;
      open_len = rw c.swap.ensures.x_after c.self.invariant.done_len;
      done_len = rw c.swap.ensures.y_after c.self.invariant.open_len;
      done_room = rw (c.swap.ensures.y_after, new) long;
      used = rw now refl;
      within = rw now (omega (arith, c.self.invariant.low));
      finished = omega (arith, c.seal-self-inside.ensures.size, c.self.invariant.used, c.self.invariant.within);
      body = rw now (drop_all 28 (take 28 c.swap.new.x.items) (omega (arith, length-take 28 c.swap.new.x.items)));
      count = rw now refl;
      count_low = omega arith;
      first = rw now refl;
      first_low = omega arith;
      last = rw now refl;
      overflow = rw now refl;
      place = omega (arith, some, c.self.invariant.place, c.self.invariant.before_low, c.self.invariant.count);
      before_low = omega arith;
    }

pub returns : goal.returns
returns c =
    let now : c.none.result ≡ [] = c.none.ensures in
    let long : length c.seal-self-inside.new.buffer ≡ c.self.inside.limit = omega (arith, c.seal-self-inside.auto.buffer, ap length c.deref_mut.ensures.value, c.self.invariant.open_room) in
    let new = refilled c.self.inside.filling.len c.seal-self-inside.new.buffer c.self.inside.filling.items (long ∙ sym c.self.invariant.open_len) in
    let s : Held = (state_of c.self.inside).held in
    let body : drop 28 (take c.self.inside.used c.deref_mut.result.now) ≡ flat_map record_bytes (messages_of s.records) = rw c.deref_mut.ensures.value c.self.invariant.body in
    let packet = packet_from s c.self.inside.count c.self.inside.first_stamp c.padded.result (c.self.inside.used - 24) c.flags_of.result (drop 28 (take c.self.inside.used c.deref_mut.result.now))
    (c.padded.ensures ∙ ap padded c.self.invariant.used) (omega (arith, c.self.invariant.used)) (c.flags_of.ensures ∙ ap (λ b. cond b 16 0) c.self.invariant.overflow) c.self.invariant.first c.self.invariant.count body in
    rw (← c.self.view_is, now, c.swap.ensures.y_after, new, c.self.invariant.last) (ap (λ (x : List ℕ). record { held = closed s; lent = x }) (c.seal-self-inside.ensures.bytes ∙ packet))
