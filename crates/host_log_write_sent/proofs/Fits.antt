-- The entry that a host's numbers name fits its record, so that nothing of it is lost: host_log_read's `read-written` is about such entries. Assumes nothing.
use Prim.Native.Nat.{ℕ}
use Rattle.record_parts.specs.Fits.{U32, U64, EntryFits}
use Rattle.host_log_write_sent.specs.Told.{sent_told}

pub sent-fits : (sequence ordinal train time tag : ℕ) → U32 sequence → U32 ordinal → U32 train → U64 time → U64 tag → EntryFits (sent_told sequence ordinal train time tag)
sent-fits sequence ordinal train time tag hs ho hn ht hg = record { sequence = hs; ordinal = ho; train = hn; packet = record { time = ht; tag = hg } }
