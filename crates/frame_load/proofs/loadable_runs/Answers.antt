use Rattle.std.proofs.Common.{refl}
use Rattle.frame_load.proofs.Never.{never_stuck, reached_fits, reaches_more}
use Rattle.frame_load.proofs.Levels.{few_counters, room_at, few_frames, room_to_begin, few_returns, room_to_call}
use Rattle.frame_load.proofs.Ends.{within_total, halts_in_budget, few_messages}
use Rattle.frame_load.proofs.loadable_runs.Goals as goal

pub returns : goal.returns
returns g c = record {
  never_stuck = λ w code from x ok r. never_stuck w code ok from x r;
  begins = λ w code from ok. (0, refl);
  goes_on = λ w code from x ok r y e. reaches_more w code ok from x y r e;
  inside = λ w code from x ok r. (reached_fits w code ok from x r).inside;
  counters = λ w code from x ok r. few_counters w code ok from x r;
  room = λ w code from x ok r n e. room_at w code ok from x n r e;
  opened = λ w code from x ok r. few_frames w code ok from x r;
  room_to_begin = λ w code from x ok r e. room_to_begin w code ok from x r e;
  returns = λ w code from x ok r. few_returns w code ok from x r;
  room_to_call = λ w code from x ok r k e. room_to_call w code ok from x k r e;
  costs = λ w code from ok cost n. within_total cost w code ok from n;
  messages = λ w code from x ok r. few_messages w code ok from x r;
  halts = λ w code from ok. halts_in_budget w code ok from;
}
