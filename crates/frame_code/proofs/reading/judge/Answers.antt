use Rattle.std.proofs.Common.{◌≡◌, [], Ok, true, ap, sym, ◌∙◌}
use Rattle.std.specs.Prelude.{nat_le}
use Rattle.frame_code.specs.Reading.{many, operation_at, message_at}
use Rattle.frame_code.specs.Bytes.{version_for}
use Rattle.frame_code.proofs.Many.{behind_ok}
use Rattle.frame_code.proofs.Versions.{versions_ok}
use Rattle.frame_code.proofs.Images.{image_reads, none_left}
use Rattle.frame_code.proofs.reading.judge.Goals as goal

pub returns-then-fits : goal.returns-then-fits
returns-then-fits c =
    let h = c.in_ok-header.header in
    let f = c.in_ok-needed in
    let none : c.in_ok-rest.rest.now ≡ [] = none_left c.in_ok-rest.rest.now c.in-None.ensures.cases in
    let o = versions_ok (many (operation_at h.version) h.operations h.rest.now) f.needed f.rest.now f.ensures in
    let m = behind_ok (many message_at h.messages f.rest.now) [] (c.in_ok-rest.ensures ∙ ap Ok none) in
    let fits : nat_le h.version (version_for o.0) ≡ true = ap (nat_le h.version) o.2 ∙ sym c.fits.ensures ∙ c.if-fits.true in
    (record { operations = o.0; messages = m.0 }, image_reads h.version c.args.bytes.now h.rest.now f.rest.now h.operations h.messages o.0 m.0 c.in_ok-header.ensures.fields o.1 m.1 fits)
