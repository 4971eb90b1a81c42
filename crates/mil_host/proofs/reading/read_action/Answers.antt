use Rattle.std.proofs.Common.{◌≡◌, Option, Some, ap, sym, ◌∙◌}
use Rattle.mil_host.specs.declared.names.Name.{Name}
use Rattle.mil_host.specs.Reading.{action_in, in_words, of_word, name_of}
use Rattle.mil_host.proofs.ReadingBack.{in_words-first}
use Rattle.mil_host.proofs.reading.read_action.Goals as goal

pub returns-in-Some-name_in : goal.returns-in-Some-name_in
unfolding action_in
returns-in-Some-name_in c =
    let named : name_of c.in-Some.word.now ≡ Some c.in-Some-name_in.name = cc in
    c.read_named.ensures ∙ ap (λ (name : Option Name). of_word name c.next.new.self) (sym named)
    ∙ sym (in_words-first c.of-words.result c.next.new.self c.in-Some.word.now c.in-Some.ensures.word c.in-Some.ensures.rest) ∙ ap in_words c.of-words.ensures
