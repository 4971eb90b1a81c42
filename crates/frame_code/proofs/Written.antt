-- What was written is read back, where it was written.
use Rattle.std.proofs.Common.{◌≡◌, ℕ, List, Result, Ok, Err, ap, ◌∙◌}
use Rattle.std.specs.Prelude.{IfOk}
use Rattle.frame_code.specs.Table.{Code}
use Rattle.frame_code.specs.Ranges.{IsImage}
use Rattle.frame_code.specs.Bytes.{image_bytes, AreLawful}
use Rattle.frame_code.specs.Reading.{image_of}
use Rattle.frame_code.proofs.Forward.{image_back}

pub read_back_if : {X E : Type 0} (code : Code) (r : Result X E) (items : X → List ℕ) → IfOk r (λ x. items x ≡ image_bytes code) → IfOk r (λ x. AreLawful code.messages) → IfOk r (λ x. IsImage code) → IfOk r (λ x. image_of (items x) ≡ Ok code)
read_back_if code (Ok x) items e l i = ap image_of e ∙ image_back code i l
read_back_if code (Err y) items e l i = e
