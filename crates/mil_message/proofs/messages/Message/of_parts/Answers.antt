use Rattle.mil_message.proofs.ReadBack.{is_refused}
use Rattle.mil_message.proofs.messages.Message.of_parts.Goals as goal

pub returns-in-Err : goal.returns-in-Err
returns-in-Err c = record { exact = is_refused _ _ c.in-Err.field-0 c.in_ok-draft.ensures c.in-Err.ensures.judged }
