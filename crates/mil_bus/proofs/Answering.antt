-- What a station answers to a quiet, as far as it comes on the line.
use Rattle.std.proofs.Common.{◌≡◌, ℕ, Bool, true, false, List, [], ◌∷◌, None, refl, ap, ◌∙◌}
use Rattle.std.specs.Prelude.{if◌then◌else◌, Option, Some}
use Rattle.std.specs.Option.{option_map}
use Rattle.mil_word.specs.declared.Line.{Line}
use Rattle.mil_terminal.specs.Host.{is_deaf}
use Rattle.mil_terminal.specs.Replies.{reply, reply_if}
use Rattle.mil_terminal.specs.Station.{Station}
use Rattle.mil_terminal.specs.declared.replies.Reply.{Reply}
use Rattle.mil_bus.specs.declared.talks.Source.TheVariants.{Terminal}
use Rattle.mil_bus.specs.Exchange.{Offer, reply_waves, offer_of, is_unheard, answer}
use Rattle.mil_bus.specs.Wholes.{value_waves}

pub answer-deaf : (line : Line) (s : Station) → is_deaf line s.history ≡ true → answer line s ≡ None
answer-deaf line s deaf = rw deaf refl

pub answer-none : (line : Line) (s : Station) → reply s.own line s.history ≡ None → answer line s ≡ None
answer-none line s none = go (is_unheard line s)
  where
    go : (b : Bool) → (if b then None else option_map (offer_of s.own) (reply s.own line s.history)) ≡ None
    go true = refl
    go false = rw none refl

value_waves-reply : (words : List ℕ) → value_waves 1 words ≡ reply_waves words
value_waves-reply [] = refl
value_waves-reply (status ∷ values) = refl

-- what a station answers, by the words of its reply
pub given_reply : (own gap : ℕ) (words : List ℕ) (r : Option Reply) → reply_if (Some gap) words ≡ r
    → (let o : Offer = record { source = Terminal own; gap = gap; waves = value_waves 1 words } in Some o) ≡ option_map (offer_of own) r
given_reply own gap words r is =
    ap (λ ws. let o : Offer = record { source = Terminal own; gap = gap; waves = ws } in Some o) (value_waves-reply words) ∙ ap (option_map (offer_of own)) is
