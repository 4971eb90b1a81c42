use Rattle.std.proofs.Common.{◌≡◌, ◌+◌, ◌∷◌, [], ◌++◌, take, ap, sym, ◌∙◌, subst, arith}
use Rattle.std.specs.List.{flat_map}
use Rattle.std.proofs.lemmas.List.{take_more, flat_map_more}
use Rattle.frame_code.specs.Bytes.{message_bytes, AreLawful}
use Rattle.frame_code.proofs.Many.{lawful_more}
use Rattle.frame_code.proofs.writing.put_messages.Goals as goal

pub loop-entry-preserved : goal.loop-entry-preserved
loop-entry-preserved c =
    let ms = c.args.messages.now in
    let i = c.loop-entry.entry-index in
    let e = c.entry-item.result in
    let same : take (i + 1) ms ≡ take i ms ++ e ∷ [] = take_more ms i e (omega arith) ∙ ap (λ z. take i ms ++ z ∷ []) (sym c.entry-item.is) in
    record {
      bytes = c.in_ok-put_message.ensures.bytes ∙ ap (λ bs. bs ++ message_bytes e) c.loop-entry.invariant.bytes ∙ flat_map_more message_bytes c.args.bytes.now.items (take i ms) e ∙ ap (λ xs. c.args.bytes.now.items ++ flat_map message_bytes xs) (sym same);
      lawful = subst AreLawful (sym same) (lawful_more (take i ms) e c.loop-entry.invariant.lawful c.put_message.ensures.lawful);
    }
