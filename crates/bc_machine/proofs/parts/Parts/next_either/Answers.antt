use Rattle.std.proofs.Common.{sym, ◌∙◌}
use Rattle.bc_machine.proofs.Ahead.{waiting_comes, script_comes}
use Rattle.bc_machine.proofs.parts.Parts.next_either.Goals as goal

pub returns-in-Some-clause-value : goal.returns-in-Some-clause-value
returns-in-Some-clause-value c =
    waiting_comes c.args.self.now c.args.alternates c.args.index c.in-Some.next c.requires.there (sym c.in-Some.is ∙ c.next_waiting.ensures.value)

pub returns-in-None-clause-value : goal.returns-in-None-clause-value
returns-in-None-clause-value c =
    script_comes c.args.self.now c.args.alternates c.args.index c.next_of_script.result c.requires.there (sym c.in-None.is ∙ c.next_waiting.ensures.value) (c.next_of_script.ensures.value c.args.alternates)
