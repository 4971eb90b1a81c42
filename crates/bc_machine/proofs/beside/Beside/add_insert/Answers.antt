use Rattle.std.proofs.Common.{◌≡◌, ℕ, List, ◌++◌, ◌∷◌, [], ap, ◌∙◌}
use Rattle.std.specs.Prelude.{map}
use Rattle.mil_word.specs.declared.Line.{Line}
use Rattle.mil_message.specs.declared.forms.Form.{Form}
use Rattle.controller_host.specs.Values.{InsertionValue}
use Rattle.bc_machine.specs.declared.beside.KeptInsert.{KeptInsert}
use Rattle.bc_machine.specs.Beside.{BesideState, insertion_in, with_insert}
use Rattle.bc_machine.proofs.Lists.{more_values}
use Rattle.bc_machine.proofs.beside.Beside.add_insert.Goals as goal

pub returns-clause-added : goal.returns-clause-added
returns-clause-added c =
    let ms = c.self.inside.messages.items in
    let new = c.put_message-message.new.messages.items in
    let xs = c.self.inside.inserts.items in
    let one = c.args.insertion in
    let x : KeptInsert = record { tick = c.tick.result; line = c.line.result; message = c.put_message-message.result } in
    let message = (insertion_in new x).message in
    let is : insertion_in new x ≡ one =
    ap (λ (t : ℕ). record { tick = t; line = c.line.result; message = message }) c.tick.ensures.value
    ∙ ap (λ (l : Line). record { tick = one.tick; line = l; message = message }) c.line.ensures
    ∙ ap (λ (m : Form). record { tick = one.tick; line = one.line; message = m }) (c.put_message-message.ensures.same ∙ c.message.ensures.value) in
    let inserts : map (insertion_in new) c.push_reserved.new.self.items ≡ map (insertion_in ms) xs ++ one ∷ [] =
    ap (map (insertion_in new)) c.push_reserved.ensures.items ∙ more_values ms new c.put_message-message.ensures.more xs x one c.self.invariant is in
    ap (λ (vs : List InsertionValue). record { words = c.self.inside.words.items; inserts = vs; wholes = c.self.inside.wholes.items }) inserts
    ∙ ap (λ (b : BesideState). with_insert b.lists one) c.self.view_is
