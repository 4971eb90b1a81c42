use Rattle.std.proofs.Common.{◌≡◌, ℕ, ◌+◌, ◌<◌, length, refl, subst, sym, ap, ◌∙◌, arith}
use Rattle.ch11_reader.specs.Contents.{reading}
use Rattle.replay.specs.declared.checkpoints.Due.{Due}
use Rattle.replay.specs.Differences.{IsFirstNumberAtFault}
use Rattle.replay.specs.Keeping.{AreSpaced}
use Rattle.replay.proofs.Keeping.{first_due}
use Rattle.replay.proofs.PlayingOn.{stops_at, ends_at, accords_at}
use Rattle.replay.proofs.PlayingKept.{played_begins, all_kept}
use Rattle.replay.proofs.playing.Playing.play_all.Goals as goal

pub keep-requires-clause-due : goal.keep-requires-clause-due
keep-requires-clause-due c =
    first_due c.args.channels.now c.args.job.now.channel c.args.self.now.standing.heard (length c.args.stops.now.items) c.args.self.now.due c.requires.begun.due c.requires.begun.heard

pub loop-played-init : goal.loop-played-init
loop-played-init c =
    played_begins c.args.index.now c.args.job.now c.args.part.now c.args.channels.now c.args.self.now.standing c.channel-heard.result c.requires.begun.mark c.args.self.now.marks.items c.args.self.now.due c.keep.new.self
    c.args.stops.now.items c.keep.new.stops.items c.requires.begun.heard c.requires.begun.there
    (c.channel-heard.ensures ∙ ap (reading c.args.index.now) c.channel-channel.ensures.value) c.requires.begun.number c.requires.begun.last c.requires.begun.marks
    (ap (λ (d : Due). d.stop) c.requires.begun.due) (ap (λ (d : Due). d.channel) c.requires.begun.due)
    c.in_ok-keep.ensures.count c.in_ok-keep.ensures.due c.in_ok-keep.ensures.kept

pub play_one-requires-clause-there : goal.play_one-requires-clause-there
play_one-requires-clause-there c = record {
  of_job = c.loop-played.invariant.playing.there.of_job;
  number_is = refl;
  told = c.loop-played.invariant.playing.there.told;
}

pub play_one-requires-clause-spaced : goal.play_one-requires-clause-spaced
play_one-requires-clause-spaced c = subst (λ (n : ℕ). AreSpaced (length c.args.channels.now) n) (sym c.loop-played.invariant.keeping.count) c.requires.spaced

pub play_one-requires-clause-due : goal.play_one-requires-clause-due
play_one-requires-clause-due c = c.loop-played.invariant.keeping.due_is

pub returns-then-not-like-clause-fault : goal.returns-then-not-like-clause-fault
returns-then-not-like-clause-fault c =
    let less : c.loop-played.played < c.args.part.now.made = omega (arith, c.loop-played-test.true, c.made-played-end.ensures.value) in (
      sym c.channel-channel.ensures.value,
      stops_at c.args.index.now c.args.job.now c.args.part.now c.loop-played.played c.loop-played.self.standing.machine c.loop-played.heard c.loop-played.self.marks.items c.loop-played.invariant.playing less
          (c.in_ok-like.ensures.unlike c.if-not-like.true),
    )

pub loop-played-preserved : goal.loop-played-preserved
loop-played-preserved c = c.in_ok-like.ensures.on c.if-not-like.false c.args.index.now c.loop-played.played c.args.stops.now.items c.loop-played.invariant

pub is_over-requires : goal.is_over-requires
is_over-requires c = record {
  of_job = c.loop-played.invariant.playing.there.of_job;
  number_is = refl;
  told = c.loop-played.invariant.playing.there.told;
}

pub returns-then-not-is_over-clause-fault : goal.returns-then-not-is_over-clause-fault
returns-then-not-is_over-clause-fault c =
    let all : c.loop-played.played ≡ c.args.part.now.made = omega (arith, c.loop-played-test.false, c.loop-played.auto.played-end, c.made-played-end.ensures.value) in (
      sym c.channel-channel.ensures.value,
      subst (λ (n : ℕ). IsFirstNumberAtFault c.args.index.now c.args.job.now c.args.part.now (n + 1)) (sym c.made-number.ensures.value)
          (ends_at c.args.index.now c.args.job.now c.args.part.now c.loop-played.played c.loop-played.self.standing.machine c.loop-played.heard c.loop-played.self.marks.items c.loop-played.invariant.playing all
          c.if-not-is_over.ensures),
    )

pub returns-clause-marks : goal.returns-clause-marks
returns-clause-marks c =
    let all : c.loop-played.played ≡ c.args.part.now.made = omega (arith, c.loop-played-test.false, c.loop-played.auto.played-end, c.made-played-end.ensures.value) in
    (accords_at c.args.index.now c.args.job.now c.args.part.now c.loop-played.played c.loop-played.self.standing.machine c.loop-played.heard c.loop-played.self.marks.items c.loop-played.invariant.playing all
    c.if-not-is_over.ensures).1

pub returns-clause-agrees : goal.returns-clause-agrees
returns-clause-agrees c =
    let all : c.loop-played.played ≡ c.args.part.now.made = omega (arith, c.loop-played-test.false, c.loop-played.auto.played-end, c.made-played-end.ensures.value) in
    (accords_at c.args.index.now c.args.job.now c.args.part.now c.loop-played.played c.loop-played.self.standing.machine c.loop-played.heard c.loop-played.self.marks.items c.loop-played.invariant.playing all
    c.if-not-is_over.ensures).0

pub returns-clause-count : goal.returns-clause-count
returns-clause-count c = c.loop-played.invariant.keeping.count

pub returns-clause-states : goal.returns-clause-states
returns-clause-states c =
    let all : c.loop-played.played ≡ c.args.part.now.made = omega (arith, c.loop-played-test.false, c.loop-played.auto.played-end, c.made-played-end.ensures.value) in
    all_kept c.args.index.now c.args.job.now c.args.part.now c.args.channels.now c.loop-played.played c.loop-played.self.standing c.loop-played.heard c.loop-played.self.marks.items c.loop-played.self.due
    c.args.stops.now.items c.loop-played.stops.items c.requires.channels c.loop-played.invariant all c.if-not-is_over.ensures
