use Rattle.std.proofs.Common.{rules, ◌≡◌, ◌<◌, ℕ, List, Some, length, get_or, ap, refl, ◌∙◌}
use Rattle.std.specs.Prelude.{slice_get}
use Rattle.std.proofs.lemmas.Option.{slice_get_read}
use Rattle.bc_machine.specs.Hosting.{sent_form}
use Rattle.bc_machine.specs.Moves.{line_of}
use Rattle.bc_machine.specs.Running.{MachineState}
use Rattle.bc_machine.proofs.Coming.{about_is}
use Rattle.bc_machine.proofs.parts.Parts.about.Goals as goal

there_is : {A : Type 0} (xs ys : List A) (i : ℕ) (x : A) → ys ≡ xs → x ≡ get_or ys i x → i < length xs → slice_get xs i ≡ Some x
there_is xs ys i x same is low = slice_get_read xs (length xs) i x refl low (is ∙ ap (λ zs. get_or zs i x) same)

pub returns : goal.returns
returns c =
    let m = c.args.self.now in
    let x = c.index-messages-index.result in
    let there : slice_get m.code.messages c.args.index ≡ Some x = there_is m.code.messages c.messages.result.now c.args.index x (search rules) c.index-messages-index.is c.requires.message in
    about_is m c.args.index c.args.alternates x c.line_for-line.result c.coming_own-sent.result c.about_to_send.result there
    (c.line_for-line.ensures ∙ ap (λ (z : MachineState). line_of c.args.alternates z.at.line x.0) c.self.view_is)
    (c.coming_own-sent.ensures ∙ ap (λ (z : MachineState). sent_form z.placed z.made x.1) c.self.view_is)
    c.about_to_send.ensures.bus c.about_to_send.ensures.gap c.about_to_send.ensures.talk c.about_to_send.ensures.inserted
