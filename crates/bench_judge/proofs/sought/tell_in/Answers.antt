use Rattle.std.proofs.Common.{◌≡◌, ◌∙◌, sym, reverse, take}
use Rattle.std.specs.List.{flat_map}
use Rattle.bench_select.specs.Viewed.{viewed_in}
use Rattle.ch11_reader.specs.Listing.{listing}
use Rattle.bench_judge.specs.Junit.{told_first}
use Rattle.bench_judge.specs.Packets.{packets_missed}
use Rattle.bench_judge.specs.Told.{told_moment, told_packet}
use Rattle.bench_judge.specs.Verdicts.{missed, passed_in}
use Rattle.bench_judge.proofs.Rereading.{same_folds, told_other, told_whole}
use Rattle.bench_judge.proofs.sought.tell_in.Goals as goal

pub returns-then-is_whole : goal.returns-then-is_whole
returns-then-is_whole g c file is =
    let skips = c.args.wanted.ruled.skips.now in
    let rule = c.args.wanted.ruled.rule.now in
    let origins = c.args.wanted.ruled.origins.now in
    let most = c.args.wanted.most in
    same_folds (λ ps told. told.items ≡ flat_map (told_packet skips) (take most (packets_missed rule (listing ps)))) (λ ps told. told.items ≡ told_first skips most rule (passed_in origins ps)) c.tell_packets.result file
    (λ ps told now. now ∙ told_whole skips most rule (passed_in origins ps) (sym c.is_whole.ensures ∙ c.if-is_whole.true)) (c.tell_packets.ensures file is)

pub returns : goal.returns
returns g c file is =
    let skips = c.args.wanted.ruled.skips.now in
    let rule = c.args.wanted.ruled.rule.now in
    let origins = c.args.wanted.ruled.origins.now in
    let most = c.args.wanted.most in
    same_folds (λ ps told. told.items ≡ flat_map (told_moment rule origins) (take most (reverse (missed rule origins (reverse (viewed_in ps)))))) (λ ps told. told.items ≡ told_first skips most rule (passed_in origins ps)) c.tell_messages.result file
    (λ ps told now. now ∙ told_other skips most rule (passed_in origins ps) (sym c.is_whole.ensures ∙ c.if-is_whole.false)) (c.tell_messages.ensures file is)
