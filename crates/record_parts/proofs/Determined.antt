-- The contract of each public function determines its answer. Assumes nothing.
use mathlib.Core.Path.{◌≡◌, sym, ◌∙◌}
use mir.Syntax.{Dict}
use contract.Lifetimes.{Lfts}
use denote.RattleType.{RattleType}
use denote.Param.Laws.{Laws, IsCopy}
use denote.Triple.Clauses.{AtExit}
use borrow.Fn.Kinds.{Dens, res_t, ended_of}
use Rattle.std.specs.declared.clone.Clone.{Ghosts}
use Rattle.floats.proofs.Determined.{OneAnswer}
use Rattle.record_parts.proofs.call_of.Kinds as call-of
use Rattle.record_parts.proofs.call_of.Reads as call-of'
use Rattle.record_parts.proofs.flag_set.Kinds as flag-set
use Rattle.record_parts.proofs.flag_set.Reads as flag-set'
use Rattle.record_parts.proofs.flag_of.Kinds as flag-of
use Rattle.record_parts.proofs.flag_of.Reads as flag-of'
use Rattle.record_parts.proofs.pending_time.Kinds as pending-time
use Rattle.record_parts.proofs.pending_time.Reads as pending-time'
use Rattle.record_parts.proofs.pending_tag.Kinds as pending-tag
use Rattle.record_parts.proofs.pending_tag.Reads as pending-tag'
use Rattle.record_parts.proofs.time_word.Kinds as time-word
use Rattle.record_parts.proofs.time_word.Reads as time-word'
use Rattle.record_parts.proofs.ordinal_number.Kinds as ordinal-number
use Rattle.record_parts.proofs.ordinal_number.Reads as ordinal-number'
use Rattle.record_parts.proofs.sender_count.Kinds as sender-count
use Rattle.record_parts.proofs.sender_count.Reads as sender-count'
use Rattle.record_parts.proofs.received_count.Kinds as received-count
use Rattle.record_parts.proofs.received_count.Reads as received-count'
use Rattle.record_parts.proofs.transmitted_count.Kinds as transmitted-count
use Rattle.record_parts.proofs.transmitted_count.Reads as transmitted-count'
use Rattle.record_parts.proofs.follow_sequence.Kinds as follow-sequence
use Rattle.record_parts.proofs.follow_sequence.Reads as follow-sequence'
use Rattle.record_parts.proofs.follow_timestamp.Kinds as follow-timestamp
use Rattle.record_parts.proofs.follow_timestamp.Reads as follow-timestamp'
use Rattle.record_parts.proofs.follow_time.Kinds as follow-time
use Rattle.record_parts.proofs.follow_time.Reads as follow-time'
use Rattle.record_parts.proofs.sender_wire.Kinds as sender-wire
use Rattle.record_parts.proofs.sender_wire.Reads as sender-wire'
use Rattle.record_parts.proofs.reflector_wire.Kinds as reflector-wire
use Rattle.record_parts.proofs.reflector_wire.Reads as reflector-wire'
use Rattle.record_parts.proofs.observe_flags.Kinds as observe-flags
use Rattle.record_parts.proofs.observe_flags.Reads as observe-flags'
use Rattle.record_parts.proofs.pending_by.Kinds as pending-by
use Rattle.record_parts.proofs.pending_by.Reads as pending-by'
use Rattle.record_parts.proofs.time_by.Kinds as time-by
use Rattle.record_parts.proofs.time_by.Reads as time-by'
use Rattle.record_parts.proofs.ordinal_by.Kinds as ordinal-by
use Rattle.record_parts.proofs.ordinal_by.Reads as ordinal-by'
use Rattle.record_parts.proofs.counters_by.Kinds as counters-by
use Rattle.record_parts.proofs.counters_by.Reads as counters-by'
use Rattle.record_parts.proofs.follow_by.Kinds as follow-by
use Rattle.record_parts.proofs.follow_by.Reads as follow-by'
use Rattle.record_parts.proofs.estimates_by.Kinds as estimates-by
use Rattle.record_parts.proofs.estimates_by.Reads as estimates-by'
use Rattle.record_parts.proofs.format_by.Kinds as format-by
use Rattle.record_parts.proofs.format_by.Reads as format-by'

pub call_of-unique : OneAnswer call-of.ps call-of.r call-of'.Post
call_of-unique κs a r₁ r₂ s₁ s₂ p q = p ∙ sym q

pub flag_set-unique : OneAnswer flag-set.ps flag-set.r flag-set'.Post
flag_set-unique κs a x y s t p q = p ∙ sym q

-- of a part of any type that is copied
module _ (T : RattleType) (laws : Laws T) (copy : IsCopy T) (clone : Ghosts T.Denot) (dict : Dict) where
  pub flag_of-unique :
      (κs : Lfts 1) (a : Dens κs (flag-of.ps T laws copy)) (x y : (res_t (flag-of.r T laws copy) κs).Denot) (s t : AtExit (ended_of 1 (flag-of.ps T laws copy) (flag-of.r T laws copy)) κs)
      → flag-of'.Post T laws copy clone dict κs a x s → flag-of'.Post T laws copy clone dict κs a y t → x ≡ y
  flag_of-unique κs a x y s t p q = p.0 ∙ sym q.0

pub pending_time-unique : OneAnswer pending-time.ps pending-time.r pending-time'.Post
pending_time-unique κs a x y s t p q = p ∙ sym q

pub pending_tag-unique : OneAnswer pending-tag.ps pending-tag.r pending-tag'.Post
pending_tag-unique κs a x y s t p q = p ∙ sym q

pub time_word-unique : OneAnswer time-word.ps time-word.r time-word'.Post
time_word-unique κs a x y s t p q = p ∙ sym q

pub ordinal_number-unique : OneAnswer ordinal-number.ps ordinal-number.r ordinal-number'.Post
ordinal_number-unique κs a x y s t p q = p ∙ sym q

pub sender_count-unique : OneAnswer sender-count.ps sender-count.r sender-count'.Post
sender_count-unique κs a x y s t p q = p ∙ sym q

pub received_count-unique : OneAnswer received-count.ps received-count.r received-count'.Post
received_count-unique κs a x y s t p q = p ∙ sym q

pub transmitted_count-unique : OneAnswer transmitted-count.ps transmitted-count.r transmitted-count'.Post
transmitted_count-unique κs a x y s t p q = p ∙ sym q

pub follow_sequence-unique : OneAnswer follow-sequence.ps follow-sequence.r follow-sequence'.Post
follow_sequence-unique κs a x y s t p q = p ∙ sym q

pub follow_timestamp-unique : OneAnswer follow-timestamp.ps follow-timestamp.r follow-timestamp'.Post
follow_timestamp-unique κs a x y s t p q = p ∙ sym q

pub follow_time-unique : OneAnswer follow-time.ps follow-time.r follow-time'.Post
follow_time-unique κs a x y s t p q = p ∙ sym q

pub sender_wire-unique : OneAnswer sender-wire.ps sender-wire.r sender-wire'.Post
sender_wire-unique κs a x y s t p q = p ∙ sym q

pub reflector_wire-unique : OneAnswer reflector-wire.ps reflector-wire.r reflector-wire'.Post
reflector_wire-unique κs a x y s t p q = p ∙ sym q

pub observe_flags-unique : OneAnswer observe-flags.ps observe-flags.r observe-flags'.Post
observe_flags-unique κs a x y s t p q = p ∙ sym q

pub pending_by-unique : OneAnswer pending-by.ps pending-by.r pending-by'.Post
pending_by-unique κs a x y s t p q = p ∙ sym q

pub time_by-unique : OneAnswer time-by.ps time-by.r time-by'.Post
time_by-unique κs a x y s t p q = p ∙ sym q

pub ordinal_by-unique : OneAnswer ordinal-by.ps ordinal-by.r ordinal-by'.Post
ordinal_by-unique κs a x y s t p q = p ∙ sym q

pub counters_by-unique : OneAnswer counters-by.ps counters-by.r counters-by'.Post
counters_by-unique κs a x y s t p q = p ∙ sym q

pub follow_by-unique : OneAnswer follow-by.ps follow-by.r follow-by'.Post
follow_by-unique κs a x y s t p q = p ∙ sym q

pub estimates_by-unique : OneAnswer estimates-by.ps estimates-by.r estimates-by'.Post
estimates_by-unique κs a x y s t p q = p ∙ sym q

pub format_by-unique : OneAnswer format-by.ps format-by.r format-by'.Post
format_by-unique κs a x y s t p q = p ∙ sym q
