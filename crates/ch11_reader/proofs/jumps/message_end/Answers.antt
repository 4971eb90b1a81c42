use Rattle.std.proofs.Common.{◌≡◌, ℕ, ◌+◌, ◌%◌, eq-eqb, drop, sym, ap, ◌∙◌, arith}
use Rattle.std.proofs.lemmas.Bool.{ne_eqb}
use Rattle.std.proofs.lemmas.List.{take_rest}
use Rattle.byteorder.specs.Endian.{little_number}
use Rattle.ch11_f1.specs.BodyReading.{messages_at}
use Rattle.ch11_reader.specs.Walking.{between, body_verdict}
use Rattle.ch11_reader.proofs.Walks.{cut_in_head, odd_length, cut_in_words, leads_one}
use Rattle.ch11_reader.proofs.jumps.message_end.Goals as goal

pub returns-then-end-place-lt-RECORD_HEAD-clause-fault : goal.returns-then-end-place-lt-RECORD_HEAD-clause-fault
returns-then-end-place-lt-RECORD_HEAD-clause-fault c = cut_in_head c.args.file.now c.args.place c.args.end c.requires.order c.requires.within c.if-end-place-lt-RECORD_HEAD.true

pub returns-then-size-eq1-clause-fault : goal.returns-then-size-eq1-clause-fault
returns-then-size-eq1-clause-fault c =
    let size : little_number 2 (drop (c.args.place + 12) c.args.file.now) ≡ c.read_u16-size.result = sym (c.read_u16-size.ensures ∙ ap (little_number 2) (take_rest c.args.file.now (c.args.place + 12))) in
    odd_length c.args.file.now c.args.place c.args.end c.read_u16-size.result (omega (arith, c.if-end-place-lt-RECORD_HEAD.false, c.requires.order)) c.requires.within size (eq-eqb (c.read_u16-size.result % 2) 1 c.if-size-eq1.true)

pub returns-then-end-place-clause-fault : goal.returns-then-end-place-clause-fault
returns-then-end-place-clause-fault c =
    let size : little_number 2 (drop (c.args.place + 12) c.args.file.now) ≡ c.read_u16-size.result = sym (c.read_u16-size.ensures ∙ ap (little_number 2) (take_rest c.args.file.now (c.args.place + 12))) in
    cut_in_words c.args.file.now c.args.place c.args.end c.read_u16-size.result (omega (arith, c.if-end-place-lt-RECORD_HEAD.false, c.requires.order)) c.requires.within size (ne_eqb (c.read_u16-size.result % 2) 1 c.if-size-eq1.false) (omega (arith, c.if-end-place.true))

pub returns-clause-leads : goal.returns-clause-leads
returns-clause-leads c end left after within =
    let file = c.args.file.now in
    let place = c.args.place in
    let size : little_number 2 (drop (c.args.place + 12) c.args.file.now) ≡ c.read_u16-size.result = sym (c.read_u16-size.ensures ∙ ap (little_number 2) (take_rest c.args.file.now (c.args.place + 12))) in
    let next : place + (14 + c.read_u16-size.result) ≡ place + 14 + c.read_u16-size.result = omega arith in
    leads_one file place c.read_u16-size.result size (ne_eqb (c.read_u16-size.result % 2) 1 c.if-size-eq1.false) end left (omega (arith, after)) within ∙ ap (λ (n : ℕ). body_verdict (messages_at left (between n end file))) next
