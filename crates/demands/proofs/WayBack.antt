-- The way back over a regular list: the answer is the earliest count, since each lookup finds no more than a later one;
-- and two counts that share a UTC count have one threshold between them, so they are one second apart.
use mathlib.Core.Path.{◌≡◌, subst}
use mathlib.Core.Logic.{◌≢◌}
use mathlib.Core.List.{List}
use Prim.Native.Nat.{ℕ, ◌+◌, ◌*◌, ◌-◌, ◌^◌, ◌≤◌, ◌<◌}
use native.Mathlib.Omega.{arith}
use native.Mathlib.Decide.{dec_le, dec_lt}
use lib.ListN.{drop}
use Rattle.refusals.specs.Outcome.{answered, refused}
use Rattle.refusals.proofs.Given.{one_answer, no_refusal}
use Rattle.counts.specs.Units.{second}
use Rattle.scales.specs.Scales.{tai_minus_gps}
use Rattle.tables.specs.Entries.{Entry}
use Rattle.conversions.specs.Conversions.{E, gps_to_utc, utc_to_gps}
use Rattle.demands.specs.TwoInstants.{Converts, TwoInstants}
use Rattle.tables.proofs.Reached.{Between}
use Rattle.conversions.proofs.LeapSeconds.{LeapSeconds}
use Rattle.conversions.proofs.OnNaturals.{tai, Reads, to_utc, from_gps, before-E, not_before_E, from-E, comes_back, apart, a, b}

-- how far two numbers lie apart
abbrev distance : ℕ → ℕ → ℕ
distance m n = (m - n) + (n - m)

-- three numbers do not all lie a second apart
no_three : (x y z : ℕ) → distance x y ≡ second → distance y z ≡ second → distance x z ≡ second → ⊥
no_three x y z p q r = omega arith

module _ (es : List Entry) (k : ℕ → ℕ) (f : LeapSeconds es k) where
  abbrev There : ℕ → ℕ → Type 0
  There g u = Converts 0 (gps_to_utc es) g u

  reads : {g u : ℕ} → There g u → Reads es k f g u
  reads {g} {u} c = from_gps es k f g u c.2

  -- what the way back answers from E on: the first reading and the leap seconds up to the second
  module _ (u : ℕ) (l : E ≤ u) (m : u < 2 ^ 64) where
    abbrev first : ℕ
    first = a es k f u

    abbrev next : ℕ
    next = b es k f u

    abbrev back : ℕ
    back = u - E + k next * second

    -- it converts to u
    comes_there : There back u
    comes_there =
        let r = comes_back es k f u back m (from-E es k f u l m) in
        (omega arith, omega (arith, r.tai_fits), to_utc es k f back u r)

    -- and no earlier count does
    first_of_all : (g : ℕ) → There g u → back ≤ g
    first_of_all g c =
        let r = reads c in
        let few = f.few next in
        let from_First = f.rises first (tai g) (omega (arith, r.exact)) in
        let from_next = f.rises next (tai g) (omega (arith, r.exact)) in
        omega (arith, r.exact)

  -- where nothing converts, the count is before E
  refused_else : (u : ℕ) → u < 2 ^ 64 → ((g : ℕ) → There g u → ⊥) → Dec (E ≤ u) → (n : ℕ) × (utc_to_gps es u ≡ refused n)
  refused_else u m none (yes h) = absurd (none (back u h m) (comes_there u h m))
  refused_else u m none (no h) = (1, before-E es k f u (omega (arith, h)))

  -- an answer is the one from E on
  answer_is : (u g : ℕ) (m : u < 2 ^ 64) → utc_to_gps es u ≡ answered g → (l : E ≤ u) × (back u l m ≡ g)
  answer_is u g m e = go (dec_le E u)
    where
      go : Dec (E ≤ u) → (l : E ≤ u) × (back u l m ≡ g)
      go (yes h) = (h, one_answer (utc_to_gps es u) (from-E es k f u h m) e)
      go (no h) = absurd (no_refusal (utc_to_gps es u) e (before-E es k f u (omega (arith, h))))

  -- whichever of two different counts is the later
  a_second : (g₁ g₂ u : ℕ) → There g₁ u → There g₂ u → g₁ ≢ g₂ → distance g₁ g₂ ≡ second
  a_second g₁ g₂ u c₁ c₂ n = go (dec_lt g₁ g₂)
    where
      go : Dec (g₁ < g₂) → distance g₁ g₂ ≡ second
      go (yes h) = omega (arith, (apart es k f g₁ g₂ u (reads c₁) (reads c₂) h).0)
      go (no h) = omega (arith, (apart es k f g₂ g₁ u (reads c₂) (reads c₁) (omega (arith, h, n))).0)

  pub two_instants : TwoInstants es tai_minus_gps 0 (gps_to_utc es) (utc_to_gps es)
  two_instants = record {
    refused_exactly = λ u m. (
      λ (n, r) g c. no_refusal (utc_to_gps es u) (from-E es k f u (not_before_E es k f g u (reads c)) m) r,
      λ none. refused_else u m none (dec_le E u),
    );
    the_earliest = λ u g m e g' c. let (l, is) = answer_is u g m e in omega (arith, is, first_of_all u l m g' c);
    converts_back = λ u g m e. let (l, is) = answer_is u g m e in subst (λ (n : ℕ). There n u) is (comes_there u l m);
    shared_exactly = λ g₁ g₂ u₁ u₂ c₁ c₂ l. (
      λ e.
          let (d, more) = apart es k f g₁ g₂ u₂ (reads (subst (λ (u : ℕ). There g₁ u) e c₁)) (reads c₂) l in
          let i = f.more_by_an_entry (tai g₁) (tai g₂) more in
          (omega arith, (i.entry, i.among, omega (arith, i.by), omega (arith, i.after))),
      λ (d, (e, later, begun, within)).
          let between : Between (drop 1 es) (tai g₁) (tai g₂) =
          record { entry = e; among = later; after = omega (arith, within); by = omega (arith, begun) } in
          let more = f.an_entry_more (tai g₁) (tai g₂) between in
          let one = f.one_in_a_day (tai g₁) (tai g₂) (omega arith) in
          omega (arith, (reads c₁).exact, (reads c₂).exact),
    );
    at_most_two = λ g₁ g₂ g₃ u c₁ c₂ c₃ n₁ n₂ n₃.
        no_three g₁ g₂ g₃ (a_second g₁ g₂ u c₁ c₂ n₁) (a_second g₂ g₃ u c₂ c₃ n₂) (a_second g₁ g₃ u c₁ c₃ n₃);
  }
