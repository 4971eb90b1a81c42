use Rattle.std.proofs.Common.{◌≡◌, ℕ, zero, suc, List, ◌++◌, refl, ap, ◌∙◌, arith, length}
use Rattle.mil_bus.specs.Actions.{station_of}
use Rattle.mil_bus.specs.Exchange.{BusState, played}
use Rattle.bc_machine.specs.declared.placed.Placed.{Placed}
use Rattle.bc_machine.specs.MadeMessages.{MadeMessage}
use Rattle.job_file.specs.Jobs.{job_in}
use Rattle.job_file.specs.Meaning.{made_after}
use Rattle.replay.specs.Places.{latest_kept_number}
use Rattle.bench_state.specs.declared.details.Detail.{Detail}
use Rattle.bench_state.specs.StateText.{channel_text, channel_line, terminal_lines, lines_below, station_text, host_state}
use Rattle.bench_step.proofs.Pairs.{no_part}
use Rattle.bench_step.proofs.replies.print_job.Goals as goal

-- what is told of a bus is of what was played on it
module _ (detail : Detail) (b : BusState) where
  below_played : (address : ℕ) → lines_below detail address b ≡ lines_below detail address (played b)
  below_played zero = refl
  below_played (suc address) = ap (λ lines. lines ++ station_text detail (station_of address b.stations)) (below_played address)

  lines_played : terminal_lines detail b ≡ terminal_lines detail (played b)
  unfolding terminal_lines
  lines_played = below_played 31

  played_text : (channel number : ℕ) (placed : List Placed) (made : List MadeMessage) → channel_text detail channel number placed b made ≡ channel_text detail channel number placed (played b) made
  played_text channel number placed made = ap (λ lines. channel_line channel number ++ (lines ++ host_state detail placed made)) lines_played

pub returns-then-index-parts : goal.returns-then-index-parts
returns-then-index-parts g c job part job_there part_there =
    absurd (no_part c.args.replay.now.state.parts c.args.index part (omega (arith, ap length c.channels-parts.ensures.value, ap length c.requires.report, c.if-index-parts.true)) part_there)

pub returns : goal.returns
returns g c job part job_there part_there =
    let s = c.args.replay.now.state in
    let number : ℕ = latest_kept_number s.found s.place job part in
    let m = c.state-machine.result.now in
    let made : List MadeMessage = made_after (job_in job) part.placed number in
    rw (
      c.number.ensures.value,
      c.channel.ensures job job_there,
      c.state-machine.ensures.number job part job_there part_there,
      (c.state-machine.ensures.of_job job part job_there part_there).actions,
      c.state-machine.ensures.made job part job_there part_there,
      played_text c.args.detail m.point.state job.channel number part.placed made
          ∙ ap (λ b. channel_text c.args.detail job.channel number part.placed b made) (c.state-machine.ensures.bus job part job_there part_there),
    ) at c.print_channel.ensures
