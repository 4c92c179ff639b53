-- The summary that calls leave, one after the other from fresh, shows the plain list of the samples served; so do its ratios; and a refusal
-- changes nothing. Assumes nothing.
use Rattle.std.specs.Prelude.{Option, Some, None, Ok, Err}
use Rattle.limits.specs.declared.Refusal.{Refusal}
use Rattle.limits.specs.declared.Refusal.TheVariants as refusal
use Rattle.std.proofs.Common.{◌≡◌, ℕ, zero, suc, ◌+◌, Bool, true, false, cond, ltb, List, [], ◌∷◌, length, refl, ap, ◌∙◌, add-zero, add_comm, add-one, arith}
use Rattle.request_limits.specs.Refusals.{most_bits}
use Rattle.bit_summary.specs.declared.Sample.{Sample}
use Rattle.bit_summary.specs.declared.DirectionSummary.{DirectionSummary}
use Rattle.bit_summary.specs.Summary.{wrong_packet, one_burst, burst_bits, with_burst, fresh, recorded_of}
use Rattle.bit_summary.specs.Record.{counts_fit, record_to, state_after}
use Rattle.bit_summary.specs.Shown.{shown_of, ratio_of, per_million}
use Rattle.bit_summary.specs.Samples.{total, greatest, bits_of, errors_of, faulty_and, with_errors, burst_and, bursts_of, Shows, ratios_of, played, and_served, served}

-- ---- one sample more

faulty_more : (n : ℕ) (s : Sample) (ss : List Sample) → length ss + wrong_packet n ≡ length (faulty_and n s ss)
faulty_more zero s ss = add-zero (length ss)
faulty_more (suc n) s ss = add-one (length ss)

bursts_more : (b : Option ℕ) (ns : List ℕ) → length ns + one_burst b ≡ length (burst_and b ns)
bursts_more None ns = add-zero (length ns)
bursts_more (Some n) ns = add-one (length ns)

sum_more : (b : Option ℕ) (ns : List ℕ) → total ns + burst_bits b ≡ total (burst_and b ns)
unfolding total
sum_more None ns = add-zero (total ns)
sum_more (Some n) ns = add_comm (total ns) n

longest_more : (b : Option ℕ) (ns : List ℕ) → with_burst (greatest ns) b ≡ greatest (burst_and b ns)
unfolding greatest
longest_more None ns = refl
longest_more (Some n) [] = refl
longest_more (Some n) (m ∷ ns) = ap Some (omega arith)

recorded-shows : (d : DirectionSummary) (s : Sample) (ss : List Sample) → Shows ss d → Shows (s ∷ ss) (recorded_of d s)
unfolding total bits_of errors_of with_errors bursts_of
recorded-shows d s ss h = record {
  received = add-one d.received ∙ ap suc h.received;
  faulty = ap (λ (n : ℕ). n + wrong_packet s.errors) h.faulty ∙ faulty_more s.errors s (with_errors ss);
  bits = ap (λ (n : ℕ). n + s.bits) h.bits ∙ add_comm (total (bits_of ss)) s.bits;
  errors = ap (λ (n : ℕ). n + s.errors) h.errors ∙ add_comm (total (errors_of ss)) s.errors;
  bursts = ap (λ (n : ℕ). n + one_burst s.burst) h.bursts ∙ bursts_more s.burst (bursts_of ss);
  sum = ap (λ (n : ℕ). n + burst_bits s.burst) h.sum ∙ sum_more s.burst (bursts_of ss);
  longest = ap (λ (b : Option ℕ). with_burst b s.burst) h.longest ∙ longest_more s.burst (bursts_of ss);
}

fresh-shows : Shows [] fresh
unfolding total greatest bits_of errors_of with_errors bursts_of
fresh-shows = record { received = refl; faulty = refl; bits = refl; errors = refl; bursts = refl; sum = refl; longest = refl }

-- a call, served or refused
call_shows : (d : DirectionSummary) (s : Sample) (ss : List Sample) → Shows ss d → Shows (and_served (record_to d s) s ss) (state_after d (record_to d s))
unfolding record_to
call_shows d s ss h = by (ltb most_bits s.bits) (counts_fit d)
  where
    by : (a b : Bool) → let r = cond a (Err refusal.TooMuchPadding) (cond b (Ok (recorded_of d s)) (Err refusal.CountsFull)) in Shows (and_served r s ss) (state_after d r)
    by true b = h
    by false true = recorded-shows d s ss h
    by false false = h

-- ---- the theorem: after any calls from fresh, each count and sum follows from the samples that were served, and from nothing else
pub played-shows : (ss : List Sample) → Shows (served ss) (played ss)
unfolding played served
played-shows [] = fresh-shows
played-shows (s ∷ ss) = call_shows (played ss) s (served ss) (played-shows ss)

-- and so do the ratios
pub ratios-shown : (ss : List Sample) → shown_of (played ss) ≡ ratios_of (served ss)
unfolding ratios_of
ratios-shown ss =
    let h = played-shows ss in
    λ i. record {
      ratio = ratio_of (h.errors i) (h.bits i);
      errors = per_million (ratio_of (h.errors i) (h.bits i));
      packets = per_million (ratio_of (h.faulty i) (h.received i));
      burst = ratio_of (h.sum i) (h.bursts i);
    }

-- a refusal changes nothing
pub refused-unchanged : (d : DirectionSummary) (s : Sample) (r : Refusal) → record_to d s ≡ Err r → state_after d (record_to d s) ≡ d
refused-unchanged d s r e = ap (state_after d) e
