use Rattle.std.proofs.Common.{◌≡◌, ◌∙◌, ◌<◌, ◌+◌, refl, sym, subst, [], ◌∷◌, length, arith}
use Rattle.std.specs.Prelude.{true, false}
use Rattle.bc_machine.proofs.Next.{few}
use Rattle.job_file.specs.Jobs.{job_in}
use Rattle.job_file.specs.Meaning.{records}
use Rattle.ch11_builder.specs.Recorded.{IsRecorded}
use Rattle.ch11_recording.specs.Items.{numbered, numbered_from, to_the_end}
use Rattle.bench_core.specs.OneChannel.{format_of}
use Rattle.bench_core.proofs.OneChannelStages.{Stage, next_stage, last_stage, channel_now, one_channel, is_next, holding, rises, read_again, took_all, took_part, rose_at_end}
use Rattle.bench_core.proofs.alone.record_all.Goals as goal

pub loop-record-preserved : goal.loop-record-preserved
loop-record-preserved g c =
    let taken = g.S.Sink.taken in
    let failures = g.S.Sink.failures in
    let job = job_in c.args.job.now in
    let placed = c.args.job.now.actions in
    let before = c.args.recorder.writing.sink in
    let n = c.loop-record.machine.point.number in
    let st = c.loop-record.invariant.stage in
    let number : c.from.result ≡ c.next_record.new.machine.point.number = c.from.ensures ∙ c.number-number.ensures.value in
    let is : c.from.result ≡ n + 1 = number ∙ c.in-Some.ensures.number in
    let fits : IsRecorded (numbered c.from.result c.in-Some.record) = c.record_fits.ensures c.from.result in
    let low = is_next taken failures job placed c.args.version c.args.limit before n c.loop-record.recorder (holding taken failures job placed c.args.version c.args.limit before n) st
    (channel_now taken failures job placed c.args.version c.args.limit before n c.loop-record.recorder st) in
    let kept : c.keep.result ≡ true =
    c.keep.ensures.when (holding taken failures job placed c.args.version c.args.limit before n) (channel_now taken failures job placed c.args.version c.args.limit before n c.loop-record.recorder st)
    (omega (arith, low, is)) c.in-Some.ensures.small in
    let goes = c.keep.ensures.goes_on kept in
    let next = next_stage taken failures job placed c.args.version c.args.limit before c.run_gives_the_packets.ensures.latest n c.from.result c.in-Some.record c.loop-record.recorder c.keep.new.self st
    (c.in-Some.ensures.record job placed c.program-sound.ensures.sound c.loop-record.invariant.of) is fits goes c.keep.ensures.unfinished c.keep.ensures.few c.keep.ensures.failures in
    record {
      of = c.next_record.ensures.of_job job placed c.loop-record.invariant.of;
      stage = subst (λ i. Stage taken failures job placed c.args.version c.args.limit before i c.keep.new.self) number next;
    }

pub end-requires-clause-few : goal.end-requires-clause-few
end-requires-clause-few g c = omega (arith, few c.loop-record.machine c.loop-record.invariant.of.under_way, c.loop-record.invariant.stage.few)

pub returns-in-Ok-clause-file : goal.returns-in-Ok-clause-file
returns-in-Ok-clause-file g c =
    let taken = g.S.Sink.taken in
    let failures = g.S.Sink.failures in
    let job = job_in c.args.job.now in
    let placed = c.args.job.now.actions in
    let before = c.args.recorder.writing.sink in
    let n = c.loop-record.machine.point.number in
    let st = c.loop-record.invariant.stage in
    let whole : n ≡ length (records job placed) = c.in_default.ensures.all job placed c.program-sound.ensures.sound c.loop-record.invariant.of in
    let goes = c.end.ensures.goes_on (c.end.ensures.when (one_channel taken failures job placed c.args.version c.args.limit before n c.loop-record.recorder st)) in
    let last = last_stage taken failures job placed c.args.version c.args.limit before n c.loop-record.recorder c.end.new.self st whole goes in
    let done = c.finish.ensures.same (format_of c.args.version c.args.limit) [] (taken before) (job.channel ∷ []) (to_the_end job.channel (numbered_from 1 (records job placed))) last in
    rw c.into_sink.ensures (took_all taken _ (taken before) c.finish.new.self.writing done.written (c.in-Ok.ensures.ok.0 refl))

pub returns-in-Ok-clause-read : goal.returns-in-Ok-clause-read
returns-in-Ok-clause-read g c =
    let job = job_in c.args.job.now in
    let placed = c.args.job.now.actions in
    let n = c.loop-record.machine.point.number in
    let whole : n ≡ length (records job placed) = c.in_default.ensures.all job placed c.program-sound.ensures.sound c.loop-record.invariant.of in
    read_again g.S.Sink.taken g.S.Sink.failures job placed c.args.version c.args.limit c.args.recorder.writing.sink c.recording_is_read_again.ensures.read c.recording_is_read_again.ensures.ended
    n c.loop-record.recorder c.loop-record.invariant.stage whole (record { version = omega arith; low = c.requires.low; high = c.requires.high }) (omega (arith, c.channel-channel.ensures.value))

pub returns-clause-refused : goal.returns-clause-refused
returns-clause-refused g c =
    let taken = g.S.Sink.taken in
    let failures = g.S.Sink.failures in
    let job = job_in c.args.job.now in
    let placed = c.args.job.now.actions in
    let before = c.args.recorder.writing.sink in
    let n = c.loop-record.machine.point.number in
    let st = c.loop-record.invariant.stage in
    let whole : n ≡ length (records job placed) = c.in_default.ensures.all job placed c.program-sound.ensures.sound c.loop-record.invariant.of in
    let goes = c.end.ensures.goes_on (c.end.ensures.when (one_channel taken failures job placed c.args.version c.args.limit before n c.loop-record.recorder st)) in
    let last = last_stage taken failures job placed c.args.version c.args.limit before n c.loop-record.recorder c.end.new.self st whole goes in
    let done = c.finish.ensures.same (format_of c.args.version c.args.limit) [] (taken before) (job.channel ∷ []) (to_the_end job.channel (numbered_from 1 (records job placed))) last in
    let up = rises taken failures job placed c.args.version c.args.limit before c.loop-record.recorder.writing.failed c.end.new.self.writing.failed _ _ c.end.ensures.failures st.rose st.kept in
    let rose = rose_at_end (failures before) _ _ c.end.new.self.writing.failed false c.in-Err.ensures.failures refl up.0 up.1 in (
      (c.requires.low, c.requires.high),
      subst (λ s. failures before < failures s) (sym c.into_sink-in-Err.ensures) rose,
      rw c.in-Err.ensures.fault done.written.within,
      took_part taken _ (taken before) c.finish.new.self.writing c.into_sink-in-Err.result c.in-Err.fault.taken done.written c.in-Err.ensures.fault c.into_sink-in-Err.ensures,
    )
