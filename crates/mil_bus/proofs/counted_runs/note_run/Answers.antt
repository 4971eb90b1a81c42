use Rattle.std.proofs.Common.{◌≡◌, ◌+◌, ◌-◌, ◌<◌, ◌≤◌, take, drop, length, get_or, true, arith, sym, ap, ◌∙◌, subst, length-take, ◌==◌, not, false, Some, None}
use Rattle.mil_bus.specs.declared.counts.TalkCounts.{TalkCounts}
use Rattle.mil_bus.specs.Counts.{counts_of}
use Rattle.mil_bus.specs.Lengthened.{AreLike, goes_on, lengthened}
use Rattle.mil_bus.specs.Wholes.{all_words}
use Rattle.mil_bus.proofs.Passes.{controllers-few, one-few, two-few}
use Rattle.mil_bus.proofs.Lengthening.{counts_of-like, one_noted}
use Rattle.mil_bus.specs.declared.counts.Came.{Came}
use Rattle.mil_word.specs.declared.Sync.TheVariants.{CommandSync}
use Rattle.std.proofs.lemmas.Bool.Decides.{nat_tests}
use Rattle.mil_bus.proofs.KeptRuns.{get-same}
use Rattle.mil_bus.proofs.CountedRuns.{counts-front, data-like, counts-reply, none_is}
use Rattle.mil_bus.proofs.counted_runs.note_run.Goals as goal

pub lengthen-requires-clause-one : goal.lengthen-requires-clause-one
lengthen-requires-clause-one c =
    let xs = all_words c.args.runs.now c.args.values.now in
    rw c.requires.seen (omega (arith, one-few c.args.commands c.args.due (take c.args.from xs), length-take c.args.from xs, c.requires.few, c.requires.within))

pub lengthen-requires-clause-two : goal.lengthen-requires-clause-two
lengthen-requires-clause-two c =
    let xs = all_words c.args.runs.now c.args.values.now in
    rw c.requires.seen (omega (arith, two-few c.args.commands c.args.due (take c.args.from xs), length-take c.args.from xs, c.requires.few, c.requires.within))

pub returns-then-seen-eq0 : goal.returns-then-seen-eq0
returns-then-seen-eq0 c =
    let xs = all_words c.args.runs.now c.args.values.now in
    let n = length c.args.own.now in
    let front = ap (λ (s : TalkCounts). s.controllers) (sym c.requires.seen) ∙ c.if-seen-eq0.true in
    c.lengthen.ensures ∙ ap (λ s. lengthened s 0 n) c.requires.seen
    ∙ sym (counts-front c.args.commands c.args.due c.requires.two xs c.args.from n c.args.run.now c.args.own.now c.if-run-eq0.true c.if-run-commands.true front c.requires.within (omega arith) c.are_small.ensures c.requires.there)

pub note-requires-clause-controllers : goal.note-requires-clause-controllers
note-requires-clause-controllers c =
    let xs = all_words c.args.runs.now c.args.values.now in
    rw c.loop-i.invariant (omega (arith, controllers-few c.args.commands c.args.due (take (c.args.from + c.loop-i.i) xs), length-take (c.args.from + c.loop-i.i) xs, c.requires.few))

pub note-requires-clause-one : goal.note-requires-clause-one
note-requires-clause-one c =
    let xs = all_words c.args.runs.now c.args.values.now in
    rw c.loop-i.invariant (omega (arith, one-few c.args.commands c.args.due (take (c.args.from + c.loop-i.i) xs), length-take (c.args.from + c.loop-i.i) xs, c.requires.few))

pub note-requires-clause-two : goal.note-requires-clause-two
note-requires-clause-two c =
    let xs = all_words c.args.runs.now c.args.values.now in
    rw c.loop-i.invariant (omega (arith, two-few c.args.commands c.args.due (take (c.args.from + c.loop-i.i) xs), length-take (c.args.from + c.loop-i.i) xs, c.requires.few))

pub lengthen-requires-then-goes_on-clause-controllers : goal.lengthen-requires-then-goes_on-clause-controllers
lengthen-requires-then-goes_on-clause-controllers c =
    let xs = all_words c.args.runs.now c.args.values.now in
    let at = c.args.from + c.loop-i.i in
    let w = c.word.result in
    let lt : at < length xs = omega (arith, c.requires.within, c.loop-i-test.true) in
    let is : w ≡ get_or xs at w = sym (c.requires.there c.loop-i.i w c.loop-i-test.true ∙ c.word.ensures w) in
    let e = one_noted c.args.commands c.args.due c.requires.two xs at c.loop-i.seen c.note.new.self w lt c.loop-i.invariant c.note.ensures is in
    rw e (omega (arith, controllers-few c.args.commands c.args.due (take (at + 1) xs), length-take (at + 1) xs, c.requires.few))

pub lengthen-requires-then-goes_on-clause-one : goal.lengthen-requires-then-goes_on-clause-one
lengthen-requires-then-goes_on-clause-one c =
    let xs = all_words c.args.runs.now c.args.values.now in
    let at = c.args.from + c.loop-i.i in
    let w = c.word.result in
    let lt : at < length xs = omega (arith, c.requires.within, c.loop-i-test.true) in
    let is : w ≡ get_or xs at w = sym (c.requires.there c.loop-i.i w c.loop-i-test.true ∙ c.word.ensures w) in
    let e = one_noted c.args.commands c.args.due c.requires.two xs at c.loop-i.seen c.note.new.self w lt c.loop-i.invariant c.note.ensures is in
    rw e (omega (arith, one-few c.args.commands c.args.due (take (at + 1) xs), length-take (at + 1) xs, c.requires.few))

pub lengthen-requires-then-goes_on-clause-two : goal.lengthen-requires-then-goes_on-clause-two
lengthen-requires-then-goes_on-clause-two c =
    let xs = all_words c.args.runs.now c.args.values.now in
    let at = c.args.from + c.loop-i.i in
    let w = c.word.result in
    let lt : at < length xs = omega (arith, c.requires.within, c.loop-i-test.true) in
    let is : w ≡ get_or xs at w = sym (c.requires.there c.loop-i.i w c.loop-i-test.true ∙ c.word.ensures w) in
    let e = one_noted c.args.commands c.args.due c.requires.two xs at c.loop-i.seen c.note.new.self w lt c.loop-i.invariant c.note.ensures is in
    rw e (omega (arith, two-few c.args.commands c.args.due (take (at + 1) xs), length-take (at + 1) xs, c.requires.few))

pub returns-then-goes_on : goal.returns-then-goes_on
returns-then-goes_on c =
    let xs = all_words c.args.runs.now c.args.values.now in
    let at = c.args.from + c.loop-i.i in
    let w = c.word.result in
    let run = c.args.run.now.number in
    let more = length c.args.own.now - (c.loop-i.i + 1) in
    let lt : at < length xs = omega (arith, c.requires.within, c.loop-i-test.true) in
    let is : w ≡ get_or xs at w = sym (c.requires.there c.loop-i.i w c.loop-i-test.true ∙ c.word.ensures w) in
    let e = one_noted c.args.commands c.args.due c.requires.two xs at c.loop-i.seen c.note.new.self w lt c.loop-i.invariant c.note.ensures is in
    let on : goes_on c.args.commands c.args.due (counts_of c.args.commands c.args.due (take (at + 1) xs)) run ≡ true =
    ap (λ s. goes_on c.args.commands c.args.due s run) (sym e) ∙ sym c.goes_on.ensures ∙ c.if-goes_on.true in
    let same : c.args.from + (c.loop-i.i + 1) ≡ at + 1 = omega arith in
    let behind : c.args.run.now.commands ≤ c.loop-i.i + 1 = omega (arith, c.from.ensures, c.if-from-next.true) in
    let like : AreLike run more (drop (at + 1) xs) =
    subst (λ n. AreLike run more (drop n xs)) same (data-like c.args.run.now c.args.own.now xs c.args.from (c.loop-i.i + 1) more behind (omega arith) (omega (arith, c.loop-i-test.true)) c.are_small.ensures c.requires.there) in
    let all : at + 1 + more ≡ c.args.from + length c.args.own.now = omega (arith, c.loop-i-test.true) in
    c.lengthen-then-goes_on.ensures ∙ ap (λ s. lengthened s run more) e
    ∙ sym (counts_of-like c.args.commands c.args.due c.requires.two xs (at + 1) run more (omega (arith, c.requires.within, c.loop-i-test.true)) on like)
    ∙ ap (λ k. counts_of c.args.commands c.args.due (take k xs)) all

pub loop-i-preserved : goal.loop-i-preserved
loop-i-preserved c =
    let xs = all_words c.args.runs.now c.args.values.now in
    let at = c.args.from + c.loop-i.i in
    let w = c.word.result in
    let lt : at < length xs = omega (arith, c.requires.within, c.loop-i-test.true) in
    let is : w ≡ get_or xs at w = sym (c.requires.there c.loop-i.i w c.loop-i-test.true ∙ c.word.ensures w) in
    let e = one_noted c.args.commands c.args.due c.requires.two xs at c.loop-i.seen c.note.new.self w lt c.loop-i.invariant c.note.ensures is in
    e ∙ ap (λ k. counts_of c.args.commands c.args.due (take k xs)) (omega arith)

pub returns-then-not-is_empty : goal.returns-then-not-is_empty
returns-then-not-is_empty c =
    let xs = all_words c.args.runs.now c.args.values.now in
    let own = c.args.own.now in
    let run = c.args.run.now in
    let v = get_or own 0 0 in
    let some : (length own == 0) ≡ false = sym c.is_empty.ensures ∙ c.if-not-is_empty.true in
    let more : 0 < length own = grind (arith, nat_tests) in
    let none : c.args.seen.now.one ≡ None = none_is c.args.seen.now.one (c.is_none.ensures ∙ ap not c.if-is_none.true) in
    let before = ap (λ (s : TalkCounts). s.one) (sym c.requires.seen) ∙ none in
    let came : Came = record { gap = run.gap; first = Some (record { sync = CommandSync; value = v }); count = length own } in
    ap (λ k. let s : TalkCounts = record c.args.seen.now { one = Some k } in s) (c.came_of.ensures 0)
    ∙ ap (λ (s : TalkCounts). let t : TalkCounts = record s { one = Some came } in t) c.requires.seen
    ∙ sym (counts-reply c.args.commands c.args.due c.requires.two xs c.args.from run own v c.if-run-eq1-2.true c.if-run-eq1.true c.if-due-gt0.true before c.requires.within more c.are_small.ensures c.requires.there (get-same own 0 0 v more))
