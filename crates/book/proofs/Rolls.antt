-- A roster's entries and the memory behind them, as one list that is cut at the count.
use Rattle.std.proofs.Common.{◌≡◌, ℕ, suc, ◌+◌, ◌-◌, ◌<◌, ◌≤◌, true, ◌&&◌, ltb, List, [], ◌∷◌, ◌++◌, length, take, drop, set, Ok, Err, Result, sym, refl, ap, ◌∙◌, arith}
use Rattle.std.proofs.lemmas.List.{length-take-le, length-drop, take_more_set, drop-set-lt, drop-drop, append_assoc, append-nil}
use Rattle.std.proofs.lemmas.Bool.{and_parts, ltb-true}
use Rattle.std.proofs.lemmas.Bool.Decides.{nat_tests}
use Rattle.refusals.specs.declared.Refusal.{Refusal}
use Rattle.book.specs.declared.roster.Entry.{Entry}
use Rattle.book.specs.Entries.{Roll, added}
use Rattle.book.specs.Calls.{RosterCall, has_place, if_ok, answer_to, entry_asked, after_call, after_calls, accepted_entries, EntriesStay}

abbrev pub cut_at : ℕ → List Entry → Roll
cut_at n memory = record { entries = take n memory; beyond = drop n memory }

room_left : (n all : ℕ) → ltb 0 (all - n) ≡ ltb n all
room_left n all = grind (arith, nat_tests)

pub place_at : (n : ℕ) (memory : List Entry) → n ≤ length memory → has_place (cut_at n memory) ≡ (ltb n 65536 && ltb n (length memory))
place_at n memory held =
    ap (λ k. ltb k 65536 && ltb 0 (length (drop n memory))) (length-take-le n memory held)
    ∙ ap (λ k. ltb n 65536 && ltb 0 k) (length-drop n memory) ∙ ap (λ t. ltb n 65536 && t) (room_left n (length memory))

pub place_parts : (n : ℕ) (memory : List Entry) → n ≤ length memory → has_place (cut_at n memory) ≡ true → (n < 65536) × (n < length memory)
place_parts n memory held place =
    let both = and_parts (ltb n 65536) (ltb n (length memory)) (sym (place_at n memory held) ∙ place) in
    (ltb-true n 65536 both.0, ltb-true n (length memory) both.1)

pub added_at : (n : ℕ) (memory : List Entry) (e : Entry) → n < length memory → cut_at (n + 1) (set memory n e) ≡ added (cut_at n memory) e
added_at n memory e lt =
    ap (λ front. record { entries = front; beyond = drop (n + 1) (set memory n e) }) (take_more_set memory n e lt)
    ∙ ap (λ rest. record { entries = take n memory ++ e ∷ []; beyond = rest }) (drop-set-lt (n + 1) memory n e (omega arith) ∙ sym (drop-drop 1 n memory))

-- one call: its own entry first, if it is accepted
one_added : (r : Result (Unit {0}) Refusal) (roll : Roll) (e : Entry) (more : List Entry)
    → (if_ok r (added roll e) roll).entries ++ more ≡ roll.entries ++ (if_ok r (e ∷ []) [] ++ more)
one_added (Ok done) roll e more = append_assoc roll.entries (e ∷ []) more
one_added (Err refusal) roll e more = refl

one_used : (r : Result (Unit {0}) Refusal) (roll : Roll) (e : Entry) (more : List Entry)
    → drop (length more) (if_ok r (added roll e) roll).beyond ≡ drop (length (if_ok r (e ∷ []) [] ++ more)) roll.beyond
one_used (Ok done) roll e more =
    let more-is : 1 + length more ≡ suc (length more) = omega arith in
    drop-drop (length more) 1 roll.beyond ∙ ap (λ n. drop n roll.beyond) more-is
one_used (Err refusal) roll e more = refl

only_added : (roll : Roll) (calls : List RosterCall) → (after_calls roll calls).entries ≡ roll.entries ++ accepted_entries roll calls
only_added roll [] = sym (append-nil roll.entries)
only_added roll (call ∷ calls) =
    only_added (after_call roll call) calls
    ∙ one_added (answer_to roll call) roll (entry_asked call) (accepted_entries (after_call roll call) calls)

untouched : (roll : Roll) (calls : List RosterCall) → (after_calls roll calls).beyond ≡ drop (length (accepted_entries roll calls)) roll.beyond
untouched roll [] = refl
untouched roll (call ∷ calls) =
    untouched (after_call roll call) calls
    ∙ one_used (answer_to roll call) roll (entry_asked call) (accepted_entries (after_call roll call) calls)

pub entries_stay : EntriesStay
entries_stay = record { only_added = only_added; untouched = untouched }
