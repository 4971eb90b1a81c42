use Rattle.std.proofs.lemmas.Result.{err_from_is_err_and}
use Rattle.frame_code.specs.Reading.{many, operation_at, message_at, image_of}
use Rattle.frame_code.proofs.Images.{operations_fail, messages_fail, faults_through}
use Rattle.frame_code.proofs.reading.build.Goals as goal

pub returns-in_err-operations-clause-image : goal.returns-in_err-operations-clause-image
returns-in_err-operations-clause-image c =
    let h = c.in_ok-header.header in
    let e = c.in_err-operations.field-0.0 in
    let p = err_from_is_err_and c.from_residual-in_err-operations.result c.from_residual-in_err-operations.ensures.1 in
    rw (p.1, p.2) (faults_through e (many (operation_at h.version) h.operations h.rest.now) (image_of c.args.bytes.now) (operations_fail h.version c.args.bytes.now h.rest.now h.operations h.messages e c.in_ok-header.ensures.fields) c.in_err-operations.ensures.operations)

pub returns-in_err-messages-clause-image : goal.returns-in_err-messages-clause-image
returns-in_err-messages-clause-image c =
    let h = c.in_ok-header.header in
    let o = c.in_ok-operations in
    let e = c.in_err-messages.field-0.0 in
    let p = err_from_is_err_and c.from_residual-in_err-messages.result c.from_residual-in_err-messages.ensures.1 in
    rw (p.1, p.2) (faults_through e (many message_at h.messages o.rest.now) (image_of c.args.bytes.now) (messages_fail h.version c.args.bytes.now h.rest.now o.rest.now h.operations h.messages o.operations.items e c.in_ok-header.ensures.fields o.ensures.operations) c.in_err-messages.ensures.messages)
