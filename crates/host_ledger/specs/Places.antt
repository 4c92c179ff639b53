-- The places of a ledger's words, by name, in the order of Words.antt, as far as definitions name them. Assumes nothing.
use Rattle.std.specs.Prelude.{ℕ}

-- how many replies a probe asks for
abbrev pub copies : ℕ
copies = 0

-- the first of the four words of the hash
abbrev pub secret1 : ℕ
secret1 = 1

-- the calls that were served
abbrev pub calls : ℕ
calls = 5

-- the first of the five words of both rings and of what awaits
abbrev pub keys_head : ℕ
keys_head = 6

-- the length of the ring of keys
abbrev pub keys_len : ℕ
keys_len = 7

-- the head of the ring of probes
abbrev pub probes_head : ℕ
probes_head = 8

-- its length
abbrev pub probes_len : ℕ
probes_len = 9

-- whether the newest key awaits its observe
abbrev pub awaits : ℕ
awaits = 10

-- the replies that were asked for: the first of the counts of replies
abbrev pub requested : ℕ
requested = 11

-- unique replies
abbrev pub unique : ℕ
unique = 12

-- duplicates
abbrev pub duplicate : ℕ
duplicate = 13

-- unknown replies
abbrev pub unknown : ℕ
unknown = 14

-- answered probes
abbrev pub answered : ℕ
answered = 15

-- further replies of such probes
abbrev pub additional : ℕ
additional = 16

-- first replies with no packet pending
abbrev pub late : ℕ
late = 17

-- replies up to copies
abbrev pub satisfied : ℕ
satisfied = 18

-- the reflector number of the last unique reply
abbrev pub last : ℕ
last = 19

-- the highest reflector number
abbrev pub highest : ℕ
highest = 20

-- reordered replies
abbrev pub reordered : ℕ
reordered = 21

-- replies whose reflector number is not the sender's
abbrev pub independent : ℕ
independent = 22

-- evicted probes
abbrev pub probes_evicted : ℕ
probes_evicted = 23

-- evicted keys
abbrev pub replies_evicted : ℕ
replies_evicted = 24

-- the count of the round trips, the first of their eight words
abbrev pub trips : ℕ
trips = 25

-- whether the sum of the round trips is negative
abbrev pub trips_sign : ℕ
trips_sign = 26

-- the kind of the smallest round trip
abbrev pub trips_min_kind : ℕ
trips_min_kind = 29

-- the kind of the largest round trip
abbrev pub trips_max_kind : ℕ
trips_max_kind = 31

-- the observations of direct loss, the first of its eleven words
abbrev pub direct : ℕ
direct = 33

-- whether the history was exceeded
abbrev pub exceeded : ℕ
exceeded = 37

-- whether there is an anchor, the first of the six words of the window
abbrev pub anchored : ℕ
anchored = 38

-- the anchor's first two counters
abbrev pub anchor : ℕ
anchor = 39

-- both transmit counters
abbrev pub transmitted : ℕ
transmitted = 40

-- the latest's first two counters
abbrev pub latest : ℕ
latest = 41

-- the two maxima
abbrev pub maxima : ℕ
maxima = 42

-- how many offsets were seen
abbrev pub seen : ℕ
seen = 43

-- the follow-ups observed, the first of their words
abbrev pub follow_ups : ℕ
follow_ups = 44

-- matched follow-ups
abbrev pub matched : ℕ
matched = 45

-- the count of their delays, the first of eight words
abbrev pub delay : ℕ
delay = 50

-- whether the sum of the delays is negative
abbrev pub delay_sign : ℕ
delay_sign = 51

-- the kind of the smallest delay
abbrev pub delay_min_kind : ℕ
delay_min_kind = 54

-- its magnitude
abbrev pub delay_min : ℕ
delay_min = 55

-- the kind of the largest delay
abbrev pub delay_max_kind : ℕ
delay_max_kind = 56

-- its magnitude
abbrev pub delay_max : ℕ
delay_max = 57

-- the samples of clock quality, the first of its fourteen words
abbrev pub quality : ℕ
quality = 58

-- the probes evicted without a reply
abbrev pub evicted_unanswered : ℕ
evicted_unanswered = 72
