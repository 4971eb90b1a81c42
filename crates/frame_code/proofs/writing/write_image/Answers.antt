use Rattle.frame_code.proofs.Written.{read_back_if}
use Rattle.frame_code.proofs.writing.write_image.Goals as goal

pub returns-clause-read_back : goal.returns-clause-read_back
returns-clause-read_back c = read_back_if c.args.image.now c.written.result (λ bytes. bytes.items) c.written.ensures.bytes c.written.ensures.lawful c.written.ensures.image
