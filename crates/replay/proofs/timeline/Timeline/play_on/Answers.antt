use Rattle.replay.proofs.timeline.Timeline.play_on.Goals as goal

pub returns-clause-arrived : goal.returns-clause-arrived
returns-clause-arrived c = record {
  room = c.requires.stands.room;
  live = rw (← c.deref.ensures.value, ← c.deref-2.ensures.value) c.play_all.ensures;
  next = c.requires.stands.next;
  next_at = c.requires.stands.next_at;
  checkpoints = c.requires.stands.checkpoints;
  enough = c.requires.stands.enough;
  recent = c.requires.stands.recent;
  capacity = c.requires.stands.capacity;
}
