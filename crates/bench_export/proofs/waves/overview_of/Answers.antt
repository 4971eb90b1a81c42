use Rattle.std.proofs.Common.{◌≡◌, ◌++◌, List, reverse, subst}
use Rattle.ch11_reader.specs.Recording.{Found}
use Rattle.ch11_stream.proofs.Folding.{all_found, not_found}
use Rattle.ch11_stream.proofs.Readings.{amid_on, amid_start}
use Rattle.bench_export.specs.Changes.{changes_in}
use Rattle.bench_export.specs.Choosing.{selects_any}
use Rattle.bench_export.specs.Merging.{IsSurvey}
use Rattle.bench_export.proofs.Streamed.{changes_step, selects_on}
use Rattle.bench_export.proofs.waves.overview_of.Goals as goal

pub packets-init : goal.packets-init
packets-init g c = record {
  many = c.in_ok-found.ensures.many;
  known = λ file is. rw (c.in-Ok.ensures, is) (amid_start file);
  noted = rw c.in-Ok.ensures c.in_ok-found.ensures.none;
  selected = rw c.in-Ok.ensures c.in_ok-found.ensures.selected;
}

pub packets-preserved : goal.packets-preserved
packets-preserved g c =
    let s = rw c.in-Ok-Some.field-0-is at c.in-Ok-Some.ensures in
    let before = c.packets.packets in
    let now = c.next.new.self in
    let p = c.in-Ok-Some.packet in
    record {
      many = c.in_ok-note_packet-in-Ok-Some.ensures.many;
      known = λ file is. amid_on file before now p s (c.packets.invariant.known file is);
      noted = rw (changes_step c.args.selection.now before now p s) at (c.in_ok-note_packet-in-Ok-Some.ensures.noted (changes_in c.args.selection.now (reverse before.earlier)) c.packets.invariant.noted);
      selected = selects_on c.args.selection.now c.packets.found.selected c.note_packet.new.self.selected before now p s c.packets.invariant.selected c.in_ok-note_packet-in-Ok-Some.ensures.selected;
    }

pub returns-in-Ok-None-clause-found : goal.returns-in-Ok-None-clause-found
returns-in-Ok-None-clause-found g c file is =
    let e = rw c.in-Ok-None.field-0-is at c.in-Ok-None.ensures in
    let all = all_found file c.packets.packets c.next.new.self e (c.packets.invariant.known file is) in
    let found = c.packets.found in (
      all.0,
      (
        subst (λ (ps : List Found). IsSurvey found.survey.marks.items found.survey.least found.survey.newest found.survey.lag (changes_in c.args.selection.now ps)) all.1 c.packets.invariant.noted,
        subst (λ (ps : List Found). found.selected ≡ selects_any c.args.selection.now ps) all.1 c.packets.invariant.selected,
      ),
    )

pub returns-in-Err-clause-found : goal.returns-in-Err-clause-found
returns-in-Err-clause-found g c file is = not_found file c.packets.packets c.next.new.self c.in-Err.fault c.in-Err.ensures (c.packets.invariant.known file is)
