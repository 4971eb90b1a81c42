use Rattle.std.proofs.Common.{◌≡◌, None, length, map, arith, refl}
use Rattle.std.proofs.lemmas.List.{length-map}
use Rattle.ch11_f1.specs.Views.{message_of}
use Rattle.ch11_layout.specs.Stamps.{recorded}
use Rattle.job_file.specs.Meaning.{records}
use Rattle.bench_reproduce.specs.Readings.{read_again}
use Rattle.bench_reproduce.proofs.Beside.{all_compared, begins, goes_on}
use Rattle.bench_reproduce.proofs.judging.compare_all.Goals as goal

pub messages-init : goal.messages-init
messages-init c = record {
  small = omega arith;
  of_job = λ job placed of. of;
  compared = λ job placed sound of. begins c.args.heard.now (records job placed) c.args.machine.now.point.number (record { origins = None; same = 0; differences = c.new.result }) c.requires refl refl;
}

pub compare_next-requires : goal.compare_next-requires
compare_next-requires c = omega (arith, c.messages.invariant.small)

pub messages-preserved : goal.messages-preserved
messages-preserved c =
    let i = c.messages.invariant in
    let e = c.in_ok-compare_next.ensures in
    record {
      small = omega (arith, i.small, e.more);
      of_job = λ job placed of. e.of_job job placed (i.of_job job placed of);
      compared = λ job placed sound of.
          goes_on c.args.heard.now (records job placed) c.messages.place c.messages.machine.point.number c.compare_next.new.machine.point.number c.messages.standing c.compare_next.new.standing (recorded c.at.result.kind (message_of c.at.result.seen))
          (i.compared job placed sound of) c.at.ensures (e.next job placed sound (i.of_job job placed of));
    }

pub returns-clause-same : goal.returns-clause-same
returns-clause-same c job placed sound of =
    all_compared c.args.heard.now (records job placed) c.messages.place c.messages.machine.point.number c.messages.standing (c.messages.invariant.compared job placed sound of)
    (omega (arith, c.messages-test.false, c.messages.auto.place-end, c.len-place-end.ensures))

pub returns-clause-messages : goal.returns-clause-messages
returns-clause-messages c job placed sound of =
    let rs = records job placed in
    let made : c.run_on.new.machine.point.number ≡ length rs = c.run_on.ensures job placed sound (c.messages.invariant.of_job job placed of) in
    let read : length (map read_again rs) ≡ length rs = length-map rs read_again in
    omega (arith, c.max.ensures, c.from.ensures, c.number.ensures.value, c.len.ensures, made, read)
