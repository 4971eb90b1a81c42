use Rattle.std.proofs.Common.{◌≡◌, List, refl, ap, sym, ◌∙◌}
use Rattle.std.specs.Prelude.{None}
use Rattle.std.specs.Option.{option_copied}
use Rattle.text_lines.specs.Words.{Text}
use Rattle.judge_rules.specs.Faults.{Read}
use Rattle.signal_dictionary.specs.declared.signals.Naming.{Naming}
use Rattle.signal_dictionary.specs.Namings.{and_fresh, at_least_one, behind_namings, fresh, naming_if, naming_of, namings_behind, namings_in, outcome}
use Rattle.signal_dictionary.proofs.Named.{at-end, behind, first-of, from_next, goes-on, names-end, names-next, next-read, starts, taken-next, words-end, words-next}
use Rattle.signal_dictionary.proofs.namings.read_namings.Goals as goal

pub words-init : goal.words-init
words-init c =
    let all : from_next (option_copied c.next-next.result) c.next-next.new.self ≡ c.args.words.now = rw (c.next-next.ensures.word, c.next-next.ensures.rest) (taken-next c.args.words.now) in
    record {
      names = rw all (starts c.new-found.result.items c.args.words.now c.new-found.ensures);
      rest = rw all refl;
      left = rw all c.next-next.ensures.rest;
    }

pub words-preserved : goal.words-preserved
words-preserved c =
    let found = c.words.found.items in
    let word = c.in-Some.word.now in
    let on = goes-on (option_copied c.words.next) c.words.words word (sym c.in-Some.ensures) in
    let all : from_next (option_copied c.next-next-in-Some.result) c.next-next-in-Some.new.self ≡ c.words.words = rw (c.next-next-in-Some.ensures.word, c.next-next-in-Some.ensures.rest) (taken-next c.words.words) in
    record {
      names = rw (all, c.add.ensures.found, c.worst-fault.ensures, c.add.ensures.fault, c.naming_of.ensures)
          (c.words.invariant.names ∙ (ap (λ (rest : List Text). behind found c.words.fault (namings_behind found rest)) on.0
          ∙ (ap (λ (read : Read (List Naming)). behind found c.words.fault read) (names-next found word c.words.words on.1)
          ∙ next-read found c.words.fault (fresh found (naming_of word)) (namings_behind (and_fresh found (fresh found (naming_of word))) c.words.words))));
      rest = rw all (c.words.invariant.rest ∙ (ap (λ (rest : List Text). behind_namings rest) on.0 ∙ words-next word c.words.words on.1));
      left = rw all c.next-next-in-Some.ensures.rest;
    }

pub returns : goal.returns
returns c =
    let found = c.words.found.items in
    let end : naming_if (option_copied c.words.next) ≡ None = sym c.in_default.ensures in
    let whole : namings_in c.args.words.now ≡ outcome c.words.fault found =
    ap (λ (read : Read (List Naming)). at_least_one read) (c.words.invariant.names ∙ ap (λ (read : Read (List Naming)). behind found c.words.fault read) (names-end found (option_copied c.words.next) c.words.words end))
    ∙ at-end found c.words.fault in
    let back : behind_namings c.args.words.now ≡ from_next (option_copied c.words.next) c.words.words = c.words.invariant.rest ∙ words-end (option_copied c.words.next) c.words.words end in
    record {
      namings = rw whole c.outcome.ensures;
      next = rw back (first-of (option_copied c.words.next) c.words.words);
      rest = rw back c.words.invariant.left;
    }
