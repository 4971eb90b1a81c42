use Rattle.bc_machine.specs.Rows.{all_placed}
use Rattle.bc_machine.proofs.Marks.{ready_stays, room_stays}
use Rattle.bc_machine.proofs.schedule.Schedule.make_ready.Goals as goal

pub invariant_of-self : goal.invariant_of-self
invariant_of-self c =
    let is = c.self.invariant in
    let old = c.self.inside.sources in
    let new = c.room.new.self in
    record {
      rows = is.rows;
      found = is.found;
      within = is.within;
      room = is.room;
      beside = is.beside;
      few = is.few;
      controls = is.controls;
      sets = room_stays old new c.room.result (all_placed c.self.inside.beside.lists c.self.inside.rows.items) c.room.ensures.ready c.room.ensures.same is.sets;
      ready = λ less. ready_stays old new c.room.result c.room.ensures.ready c.room.ensures.same (is.ready less);
    }
