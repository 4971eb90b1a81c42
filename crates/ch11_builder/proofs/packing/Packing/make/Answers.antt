use Rattle.std.proofs.Common.{◌≡◌, take, [], refl, arith}
use Rattle.std.proofs.lemmas.List.{drop_all, length-take}
use Rattle.ch11_builder.proofs.packing.Packing.make.Goals as goal

pub invariant_of-result : goal.invariant_of-result
invariant_of-result c =
    let now : c.none.result ≡ [] = c.none.ensures in
    record {
      low = omega arith;
      high = omega arith;
      open_room = c.in_ok-filling.ensures.room.0;
      open_len = c.in_ok-filling.ensures.room.1;
      done_len = c.in_ok-done.ensures.room.1;
      done_room = c.in_ok-done.ensures.room.0;
      used = rw now refl;
      within = rw now (omega arith);
      finished = omega arith;
      body = rw now (drop_all 28 (take 28 c.in_ok-filling.filling.items) (omega (arith, length-take 28 c.in_ok-filling.filling.items)));
      count = rw now refl;
      count_low = omega arith;
      first = rw now refl;
      first_low = omega arith;
      last = rw now refl;
      overflow = rw now refl;
      place = omega arith;
      before_low = omega arith;
    }
