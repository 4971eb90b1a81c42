-- Tickets parted and taken in, and the taker with them, keep the rule.
use Rattle.std.proofs.Common.{◌≡◌, ◌≢◌, inr, ⊎_elim, ℕ, true, false, cond, List, ◌++◌, length, set, refl, sym, ap, ◌∙◌, true≢false, append-nil}
use mathlib.Core.Option.{some}
use lib.ListN.{get_elem?}
use Rattle.crossbeam_queue.specs.Fifo.{Forks, Merges}
use Rattle.crossbeam_queue.proofs.Lists.{at_set}
use Rattle.mil_trunk.specs.declared.rule.View.{View}
use Rattle.mil_trunk.specs.Tags.{has, Includes}
use Rattle.mil_trunk.specs.Views.{spent, ticket, taker, both_ends, joined, remaining, parted, with_tag}
use Rattle.mil_trunk.specs.Rule.{IsRight, Keeps}
use Rattle.mil_trunk.proofs.Sets.{is_either, has-zero, in_minus, not_in_minus, in_union, not_in_union}
use Rattle.mil_trunk.proofs.Tagging.{with_tag-append, with_tag-inside, with_tag-inside_none, with_tag-outside, with_tag-outside_none}
use Rattle.mil_trunk.proofs.Numbered.{all_set, all_snoc}
use Rattle.mil_trunk.proofs.Steps.{flows}

module _ {T : Type 0} (tag_of : T → ℕ) where
  spent_is_right : (bounds : List ℕ) (holder : ℕ → ℕ) (reader : ℕ) (sent : ℕ → List T) (received : List T) (number : ℕ) → IsRight tag_of bounds holder reader sent received number spent
  spent_is_right bounds holder reader sent received number = record {
    split = refl;
    bounds_are = λ e. absurd (true≢false (sym e));
    held = λ t e. absurd (true≢false (sym e ∙ has-zero t));
    others = λ t e. refl;
    taker = λ e. absurd (true≢false (sym e));
  }

  -- a ticket parted in two
  pub parting : (number : ℕ) (v : View T) (tags : ℕ) → v.live ≡ true → v.takes ≡ false → Includes v.tags tags → Forks (Keeps tag_of) number v (remaining tag_of tags v) (parted tag_of tags v)
  parting number v tags live no_taker within items views h at =
      let r = flows tag_of items views number v at live h in
      let mine = r.each number v at in
      let left = remaining tag_of tags v in
      let new = length (set views number left) in
      let holder : ℕ → ℕ = λ t. cond (has tags t) new (r.holder t) in
      inr record {
        bounds = r.bounds;
        holder = holder;
        reader = r.reader;
        sent = r.sent;
        received = r.received;
        flow = r.flow;
        within = r.within;
        each = all_snoc (IsRight tag_of r.bounds holder r.reader r.sent r.received) (set views number left) (parted tag_of tags v)
            (all_set (IsRight tag_of r.bounds holder r.reader r.sent r.received) views number left
            record {
              split = refl;
              bounds_are = λ _. mine.bounds_are live;
              held = λ t it. let both = in_minus v.tags tags t it in (rw both.1 (mine.held t both.0).0, with_tag-outside tag_of tags t v.sent both.1 ∙ (mine.held t both.0).1);
              others = λ t no. ⊎_elim (λ e. with_tag-outside_none tag_of tags t v.sent e)
                  (λ e. with_tag-outside tag_of tags t v.sent e ∙ mine.others t (⊎_elim (λ k. k) (λ k. absurd (true≢false (sym k ∙ e))) (not_in_minus v.tags tags t no))) (is_either (has tags t));
              taker = λ e. absurd (true≢false (sym e));
            }
            (λ j u other e. let one = r.each j u e in record {
              split = one.split;
              bounds_are = one.bounds_are;
              held = λ t it. let stays : has tags t ≡ false = ⊎_elim (λ c. absurd (other ((one.held t it).0 ∙ sym (mine.held t (within t c)).0))) (λ c. c) (is_either (has tags t)) in (rw stays (one.held t it).0, (one.held t it).1);
              others = one.others;
              taker = one.taker;
            }))
            record {
              split = refl;
              bounds_are = λ _. mine.bounds_are live;
              held = λ t it. (rw it refl, with_tag-inside tag_of tags t v.sent it ∙ (mine.held t (within t it)).1);
              others = λ t no. with_tag-inside_none tag_of tags t v.sent no;
              taker = λ e. absurd (true≢false (sym e));
            };
      }

  -- two tickets made one
  pub joining : (number : ℕ) (v : View T) (other : ℕ) (w : View T) → v.live ≡ true → w.live ≡ true → v.takes ≡ false → Merges (Keeps tag_of) number v other w (joined v w) spent
  joining number v other w live live' no_taker items views h at two at' =
      let r = flows tag_of items views number v at live h in
      let mine = r.each number v at in
      let was : get_elem? views other ≡ some w = ⊎_elim (λ x. absurd (two x.0)) (λ x. x.1) (at_set views number other (joined v w) w at') in
      let theirs = r.each other w was in
      let holder : ℕ → ℕ = λ t. cond (has w.tags t) number (r.holder t) in
      let Now : ℕ → View T → Type 0 = λ j u. j ≢ other → IsRight tag_of r.bounds holder r.reader r.sent r.received j u in
      let free : (t : ℕ) → has w.tags t ≡ true → has v.tags t ≡ false = λ t it. ⊎_elim (λ e. absurd (two ((theirs.held t it).0 ∙ sym (mine.held t e).0))) (λ e. e) (is_either (has v.tags t)) in
      inr record {
        bounds = r.bounds;
        holder = holder;
        reader = r.reader;
        sent = r.sent;
        received = r.received;
        flow = r.flow;
        within = r.within;
        each = all_set (IsRight tag_of r.bounds holder r.reader r.sent r.received) (set views number (joined v w)) other spent
            (spent_is_right r.bounds holder r.reader r.sent r.received other)
            (λ j u apart e. all_set Now views number (joined v w)
            (λ _. record {
              split = refl;
              bounds_are = λ _. mine.bounds_are live;
              held = λ t it. ⊎_elim
                  (λ e. (rw e refl, with_tag-append tag_of t v.sent w.sent ∙ ap (λ l. l ++ with_tag tag_of t w.sent) (mine.others t (free t e)) ∙ (theirs.held t e).1))
                  (λ e. let ours : has v.tags t ≡ true = ⊎_elim (λ k. k) (λ k. absurd (true≢false (sym k ∙ e))) (in_union v.tags w.tags t it) in
                  (rw e (mine.held t ours).0, with_tag-append tag_of t v.sent w.sent ∙ ap (λ l. with_tag tag_of t v.sent ++ l) (theirs.others t e) ∙ append-nil (with_tag tag_of t v.sent) ∙ (mine.held t ours).1))
                  (is_either (has w.tags t));
              others = λ t no. let none = not_in_union v.tags w.tags t no in
                  with_tag-append tag_of t v.sent w.sent ∙ ap (λ l. l ++ with_tag tag_of t w.sent) (mine.others t none.0) ∙ theirs.others t none.1;
              taker = λ e. absurd (true≢false (sym e));
            })
            (λ k y beyond e' off. let one = r.each k y e' in record {
              split = one.split;
              bounds_are = one.bounds_are;
              held = λ t it. let not_theirs : has w.tags t ≡ false = ⊎_elim (λ c. absurd (off ((one.held t it).0 ∙ sym (theirs.held t c).0))) (λ c. c) (is_either (has w.tags t)) in (rw not_theirs (one.held t it).0, (one.held t it).1);
              others = one.others;
              taker = one.taker;
            })
            j u e apart);
      }

  -- a ticket takes in the taker
  pub gathering : (number : ℕ) (v : View T) (other : ℕ) (w : View T) → v.live ≡ true → w.live ≡ true → w.takes ≡ true → Merges (Keeps tag_of) number v other w (both_ends v.bounds v.tags v.sent w.received) spent
  gathering number v other w live live' takes items views h at two at' =
      let r = flows tag_of items views number v at live h in
      let mine = r.each number v at in
      let both = both_ends v.bounds v.tags v.sent w.received in
      let was : get_elem? views other ≡ some w = ⊎_elim (λ x. absurd (two x.0)) (λ x. x.1) (at_set views number other both w at') in
      let theirs = r.each other w was in
      let Now : ℕ → View T → Type 0 = λ j u. j ≢ other → IsRight tag_of r.bounds r.holder number r.sent r.received j u in
      inr record {
        bounds = r.bounds;
        holder = r.holder;
        reader = number;
        sent = r.sent;
        received = r.received;
        flow = r.flow;
        within = r.within;
        each = all_set (IsRight tag_of r.bounds r.holder number r.sent r.received) (set views number both) other spent
            (spent_is_right r.bounds r.holder number r.sent r.received other)
            (λ j u apart e. all_set Now views number both
            (λ _. record { split = refl; bounds_are = λ _. mine.bounds_are live; held = mine.held; others = mine.others; taker = λ _. (refl, (theirs.taker takes).1) })
            (λ k y beyond e' off. let one = r.each k y e' in record { split = one.split; bounds_are = one.bounds_are; held = one.held; others = one.others; taker = λ is. absurd (off ((one.taker is).0 ∙ sym (theirs.taker takes).0)) })
            j u e apart);
      }

  -- the taker parted from the ticket that took it in
  pub parting_ends : (number : ℕ) (v : View T) → v.live ≡ true → v.takes ≡ true → Forks (Keeps tag_of) number v (ticket v.bounds v.tags v.sent) (taker v.bounds v.received)
  parting_ends number v live takes items views h at =
      let r = flows tag_of items views number v at live h in
      let mine = r.each number v at in
      let left = ticket v.bounds v.tags v.sent in
      let new = length (set views number left) in
      inr record {
        bounds = r.bounds;
        holder = r.holder;
        reader = new;
        sent = r.sent;
        received = r.received;
        flow = r.flow;
        within = r.within;
        each = all_snoc (IsRight tag_of r.bounds r.holder new r.sent r.received) (set views number left) (taker v.bounds v.received)
            (all_set (IsRight tag_of r.bounds r.holder new r.sent r.received) views number left
            record { split = refl; bounds_are = λ _. mine.bounds_are live; held = mine.held; others = mine.others; taker = λ e. absurd (true≢false (sym e)) }
            (λ j u other e. let one = r.each j u e in record { split = one.split; bounds_are = one.bounds_are; held = one.held; others = one.others; taker = λ is. absurd (other ((one.taker is).0 ∙ sym (mine.taker takes).0)) }))
            record { split = refl; bounds_are = λ _. mine.bounds_are live; held = λ t e. absurd (true≢false (sym e ∙ has-zero t)); others = λ t e. refl; taker = λ _. (refl, (mine.taker takes).1) };
      }
