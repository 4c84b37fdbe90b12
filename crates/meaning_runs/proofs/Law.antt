-- The law on budgets.
use Rattle.std.proofs.Common.{◌≡◌, ◌<◌, ◌≤◌, inl, inr, ℕ, ◌+◌, ◌-◌, Bool, true, false, nat_lt, if◌then◌else◌, List, [], ◌∷◌, ◌++◌, refl, sym, ◌∙◌, ap, arith, Some}
use Rattle.std.proofs.lemmas.Bool.{ltb-false, ltb-true}
use Rattle.std.proofs.lemmas.List.{append_assoc, map-append}
use Rattle.machine_events.specs.declared.event.Event.{Event}
use Rattle.machine_events.specs.declared.event.Reply.{Reply}
use Rattle.tree_files.specs.Files.{Files}
use Rattle.machine_shown.specs.Shown.{shown}
use Rattle.meaning_runs.specs.Runs.{Run, Over, Pays, Makes, gives_up, spend, play, Ending, replies_of, Reaches, starts, pays, makes, Looks, looks, told}
use Rattle.meaning_runs.specs.Follows.{BudgetLaw}
use Rattle.meaning_runs.proofs.Spends.{on_budget_at, play_longer}

law_at : (f₀ : Files) (t : ℕ) {whole : Run} (rest : Run) {paid : ℕ} {pairs : List (Event × Reply)} (k f budget fuel : ℕ) (replies more : List Reply) → Reaches (Some f₀) whole paid pairs rest → budget ≡ paid + k → fuel ≡ paid + f → k ≤ f → replies ≡ replies_of pairs ++ more → BudgetLaw f₀ t whole budget fuel replies
law_at f₀ t (Over how) k f budget fuel replies more r small great le begin =
    inl (on_budget_at f₀ t r k more small begin ∙ sym (on_budget_at f₀ t r f more great begin))
law_at f₀ t {whole} (Pays of_tree n next) {paid} {pairs} k f budget fuel replies more r small great le begin =
    at (nat_lt k n) refl (λ enough. law_at f₀ t next (k - n) (f - n) budget fuel replies more (pays paid n pairs of_tree next r) (omega (arith, small, enough)) (omega (arith, great, enough, le)) (omega (arith, le)) begin)
  where
    at : (b : Bool) → nat_lt k n ≡ b → (n ≤ k → BudgetLaw f₀ t whole budget fuel replies) → BudgetLaw f₀ t whole budget fuel replies
    at true short again =
        let longer = play_longer f₀ (spend f (shown t pairs) (Pays of_tree n next)) pairs more in
        let less : k < n = ltb-true k n short in
        inr (record {
          paid = paid;
          pairs = pairs;
          of_tree = of_tree;
          units = n;
          next = next;
          rest = more;
          reaches = r;
          paid_for = omega (arith, small);
          too_much = omega (arith, small, less);
          begin = begin;
          same = on_budget_at f₀ t r k more small begin ∙ ap (λ (b : Bool). play f₀ (if b then gives_up of_tree (shown t pairs).held else spend (k - n) (shown t pairs) next) pairs more) short;
          longer = (longer.0, ap (λ (e : Ending). e.pairs) (on_budget_at f₀ t r f more great begin) ∙ longer.1);
        })
    at false short again = again (ltb-false k n short)
law_at f₀ t {whole} (Looks q next) {paid} {pairs} k f budget fuel replies more r small great le begin =
    law_at f₀ t (next (told f₀ q)) k f budget fuel replies more (looks paid pairs q (told f₀ q) next refl r) small great le begin
law_at f₀ t {whole} (Makes e next) {paid} {pairs} k f budget fuel replies [] r small great le begin =
    inl (on_budget_at f₀ t r k [] small begin ∙ sym (on_budget_at f₀ t r f [] great begin))
law_at f₀ t {whole} (Makes e next) {paid} {pairs} k f budget fuel replies (x ∷ more) r small great le begin =
    law_at f₀ t (next x) k f budget fuel replies more (makes paid pairs e x next r) small great le
    (begin ∙ (sym (append_assoc (replies_of pairs) (x ∷ []) more) ∙ ap (λ w. w ++ more) (sym (map-append (λ (p : Event × Reply). p.1) pairs ((e, x) ∷ [])))))

pub budget_law : (f₀ : Files) (t : ℕ) (run : Run) (k fuel : ℕ) (replies : List Reply) → k ≤ fuel → BudgetLaw f₀ t run k fuel replies
budget_law f₀ t run k fuel replies le = law_at f₀ t run k fuel k fuel replies replies starts (omega arith) (omega arith) le refl
