-- A packet that goes over, and one that is left out, behind earlier ones.
use Rattle.std.proofs.Common.{◌≡◌, ℕ, ◌<◌, Bool, true, false, cond, List, [], ◌∷◌, length, set, get_or, Option, sym, ap, subst, ◌∙◌, arith}
use Rattle.std.specs.Io.KnownBytes.{Appends}
use Rattle.bench_complete.proofs.Running.{appends_nothing}
use Rattle.ch11_header.specs.Flags.{has_overflow}
use Rattle.bench_cut.specs.declared.losses.ChannelLoss.{ChannelLoss}
use Rattle.bench_cut.specs.Cut.{piece_behind}
use Rattle.bench_cut.specs.Losses.{AreLosses, channel_loss, loss_left_out, loss_over, no_loss}
use Rattle.bench_cut.specs.Packets.{bytes_for, written_behind}
use Rattle.bench_cut.specs.Parts.{Part, goes_over}
use Rattle.bench_cut.proofs.ChannelLosses.{bytes_are, losses_on, out_more, over_more}

module _ (p : Part) (earlier : List Part) (losses after : List ChannelLoss) (loss : ChannelLoss) (small : p.header.channel < 65536) (room : length losses ≡ 65536)
    (is : loss ≡ get_or losses p.header.channel no_loss) (are : AreLosses earlier losses) where
  own_loss : loss ≡ channel_loss p.header.channel earlier
  own_loss = is ∙ are p.header.channel small

  pub over_on : goes_over p ≡ true → after ≡ set losses p.header.channel (loss_over loss) → AreLosses (p ∷ earlier) after
  over_on over put = losses_on p earlier losses after (loss_over loss) (omega (arith, small, room)) put (ap loss_over own_loss ∙ sym (over_more p earlier over)) are

  pub out_on : goes_over p ≡ false → after ≡ set losses p.header.channel (loss_left_out loss (has_overflow p.header)) → AreLosses (p ∷ earlier) after
  out_on out put = losses_on p earlier losses after (loss_left_out loss (has_overflow p.header)) (omega (arith, small, room)) put (ap (λ (l : ChannelLoss). loss_left_out l (has_overflow p.header)) own_loss ∙ sym (out_more p earlier out)) are

  pub over_written : (old new : Option (List ℕ)) → goes_over p ≡ true → Appends old new (bytes_for loss p) → Appends old new (written_behind earlier p)
  over_written old new over wrote = subst (Appends old new) (ap (λ (l : ChannelLoss). bytes_for l p) own_loss ∙ bytes_are p earlier ∙ sym (ap (λ (b : Bool). cond b (piece_behind earlier p).bytes []) over)) wrote

pub out_written : (p : Part) (earlier : List Part) (old : Option (List ℕ)) → goes_over p ≡ false → Appends old old (written_behind earlier p)
out_written p earlier old out = subst (Appends old old) (sym (ap (λ (b : Bool). cond b (piece_behind earlier p).bytes []) out)) (appends_nothing old)
