use Rattle.std.proofs.Common.{◌≡◌, ◌+◌, ◌++◌, ◌∷◌, [], true, false, map, refl, sym, inl, append-nil}
use Rattle.std.specs.Prelude.{Some, Ok, Err}
use Rattle.text_lines.specs.Lines.{text_lines}
use Rattle.signal_dictionary.specs.Dictionary.{dictionary_from, dictionary_in, has_no_place}
use Rattle.signal_dictionary.specs.Lines.{said}
use Rattle.signal_dictionary.specs.Parts.{parts_of}
use Rattle.signal_dictionary.proofs.Prefixes.{fault-from, from-fault, from-range, from-signal, memory-at}
use Rattle.signal_dictionary.proofs.reading.read_dictionary.Goals as goal

pub returns-in-Some-Err-clause-fault : goal.returns-in-Some-Err-clause-fault
unfolding dictionary_in
returns-in-Some-Err-clause-fault c =
    let l = c.loop-first in
    let says : said l.line c.in-Some.first.now ≡ Some (Err c.in-Some-Err.fault) = sym (rw c.in-Some-Err.field-0-is at c.in-Some-Err.ensures.value) in
    rw (l.invariant.read, c.in-Some.ensures.lines, from-fault (map parts_of l.signals.items) l.line c.in-Some.first.now (text_lines c.in-Some.behind.now) c.in-Some-Err.fault says) (inl refl)

pub returns-then-has_no_place-clause-fault : goal.returns-then-has_no_place-clause-fault
unfolding dictionary_in
returns-then-has_no_place-clause-fault c =
    let l = c.loop-first in
    let says : said l.line c.in-Some.first.now ≡ Some (Ok (parts_of c.in-Some-Ok.signal)) = sym (rw c.in-Some-Ok.field-0-is at c.in-Some-Ok.ensures.value) in
    let many : has_no_place (parts_of c.in-Some-Ok.signal).name (map parts_of l.signals.items) ≡ true = cc in
    rw (l.invariant.read, c.in-Some.ensures.lines, from-range (map parts_of l.signals.items) l.line c.in-Some.first.now (text_lines c.in-Some.behind.now) (parts_of c.in-Some-Ok.signal) says many) (inl refl)

pub returns-then-is_err-clause-fault : goal.returns-then-is_err-clause-fault
unfolding dictionary_in
returns-then-is_err-clause-fault c =
    let l = c.loop-first in
    let says : said l.line c.in-Some.first.now ≡ Some (Ok (parts_of c.in-Some-Ok.signal)) = sym (rw c.in-Some-Ok.field-0-is at c.in-Some-Ok.ensures.value) in
    let few : has_no_place (parts_of c.in-Some-Ok.signal).name (map parts_of l.signals.items) ≡ false = cc in
    let here : c.in-Some-Ok.signal.line ≡ l.line = rw c.in-Some-Ok.field-0-is at c.in-Some-Ok.ensures.line in
    let more = map parts_of l.signals.items ++ parts_of c.in-Some-Ok.signal ∷ [] in
    rw (l.invariant.read, c.in-Some.ensures.lines, from-signal (map parts_of l.signals.items) l.line c.in-Some.first.now (text_lines c.in-Some.behind.now) (parts_of c.in-Some-Ok.signal) says few)
    (memory-at l.line (map parts_of l.signals.items) (parts_of c.in-Some-Ok.signal) (dictionary_from more (l.line + 1) (text_lines c.in-Some.behind.now)) here (fault-from more (l.line + 1) (text_lines c.in-Some.behind.now)))

pub returns-clause-signals : goal.returns-clause-signals
unfolding dictionary_in
returns-clause-signals c =
    let l = c.loop-first in
    rw (l.invariant.read, c.in_default.ensures.lines, append-nil (map parts_of l.signals.items)) refl
