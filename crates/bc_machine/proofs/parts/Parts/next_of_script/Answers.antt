use Rattle.std.proofs.Common.{rules, ◌≡◌, ◌<◌, ℕ, List, Some, length, get_or, ap, refl, ◌∙◌}
use Rattle.std.specs.Prelude.{slice_get}
use Rattle.std.proofs.lemmas.Option.{slice_get_read}
use Rattle.mil_bus.specs.Exchange.{talk_start}
use Rattle.bc_machine.specs.Hosting.{sent_form}
use Rattle.bc_machine.specs.Running.{MachineState}
use Rattle.bc_machine.proofs.Ahead.{told_of_script}
use Rattle.bc_machine.proofs.parts.Parts.next_of_script.Goals as goal

there_is : {A : Type 0} (xs ys : List A) (i : ℕ) (x : A) → ys ≡ xs → x ≡ get_or ys i x → i < length xs → slice_get xs i ≡ Some x
there_is xs ys i x same is low = slice_get_read xs (length xs) i x refl low (is ∙ ap (λ zs. get_or zs i x) same)

pub returns-clause-value : goal.returns-clause-value
returns-clause-value c alternates =
    let m = c.args.self.now in
    let x = c.index-messages-index.result in
    let there : slice_get m.code.messages c.args.index ≡ Some x = there_is m.code.messages c.messages.result.now c.args.index x (search rules) c.index-messages-index.is c.requires.message in
    told_of_script m alternates c.args.index x c.talk_start.result c.coming_own.result there
    (c.talk_start.ensures.value ∙ ap (λ (z : MachineState). talk_start z.point.state z.point.gap) c.self.view_is)
    (c.coming_own.ensures ∙ ap (λ (z : MachineState). sent_form z.placed z.made x.1) c.self.view_is)
