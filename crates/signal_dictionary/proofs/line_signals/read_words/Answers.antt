use Rattle.std.proofs.Common.{◌≡◌, Bool, true, List, drop, sym, ap, ◌∙◌, rules}
use Rattle.std.specs.Prelude.{Ok, Err, codes, if◌then◌else◌}
use Rattle.text_lines.specs.Words.{Text, begins_with}
use Rattle.judge_rules.specs.declared.fault.RuleFault.TheVariants.{Word}
use Rattle.judge_rules.specs.Faults.{Read, made}
use Rattle.signal_dictionary.specs.Lines.{signal_behind, signal_in}
use Rattle.signal_dictionary.specs.Parts.{Parts, with_parts}
use Rattle.signal_dictionary.proofs.Ranges.{made_in_range}
use Rattle.signal_dictionary.proofs.line_signals.read_words.Goals as goal

pub signal_of-requires-clause-chosen : goal.signal_of-requires-clause-chosen
signal_of-requires-clause-chosen c = (made_in_range c.takes.new.self (c.in_ok-chosen.chosen, c.in_ok-chosen.meant) (sym c.in_ok-chosen.ensures)).0

pub signal_of-requires-clause-fits : goal.signal_of-requires-clause-fits
signal_of-requires-clause-fits c = (made_in_range c.takes.new.self (c.in_ok-chosen.chosen, c.in_ok-chosen.meant) (sym c.in_ok-chosen.ensures)).1

pub returns-clause-value : goal.returns-clause-value
unfolding signal_in
returns-clause-value c =
    let line = c.args.line in
    let words = c.args.words.now in
    let begins : begins_with (codes "signal") words ≡ true = search rules in
    let rest : c.takes.new.self ≡ drop 1 words = search rules in
    ap (λ (p : Parts). let read : Read Parts = Ok p in read) c.signal_of.ensures
    ∙ ap (made (with_parts line)) c.in_ok-chosen.ensures
    ∙ ap (λ (r : List Text). signal_behind line r) rest
    ∙ sym (ap (λ (b : Bool). let read : Read Parts = (if b then signal_behind line (drop 1 words) else Err Word) in read) begins)
