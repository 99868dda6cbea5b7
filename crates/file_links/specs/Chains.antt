-- What chains of slots mean.
use Rattle.std.specs.Prelude.{◌≡◌, ◌≢◌, ◌+◌, ◌-◌, ◌<◌, ◌≤◌, ℕ, List, [], ◌∷◌, ◌++◌, length, sum, slice_index, slice_set}
use Rattle.file_links.specs.declared.chains.Chains.{Chains}
use Rattle.file_links.specs.Linked.{Has, Linked, walk, follow, without, END}

-- how many chains, and how many slots, there are
abbrev pub chain_count : Chains → ℕ
chain_count w = length w.first.items

abbrev pub slot_count : Chains → ℕ
slot_count w = length w.next.items

-- the chain of a slot
abbrev pub chain_of : Chains → ℕ → ℕ
chain_of w slot = slice_index w.chain.items slot

abbrev pub next_in : Chains → ℕ → ℕ → ℕ
next_in w c = follow w.first.items w.next.items c

abbrev pub previous_in : Chains → ℕ → ℕ → ℕ
previous_in w c = follow w.last.items w.previous.items c

-- the slots of a chain, in its order
abbrev pub slots_in : Chains → ℕ → List ℕ
slots_in w c = walk (next_in w c) (slice_index w.count.items c) END

-- the links of each chain lead over its slots and back, and each of these has the chain's number
pub record AreLinked (w : Chains) : Type 0 where
  pub last_length : length w.last.items ≡ chain_count w
  pub count_length : length w.count.items ≡ chain_count w
  pub previous_length : length w.previous.items ≡ slot_count w
  pub chain_length : length w.chain.items ≡ slot_count w
  pub slots_fit : slot_count w ≤ END
  pub linked : (c : ℕ) → c < chain_count w → Linked (next_in w c) (previous_in w c) END (slots_in w c) END
  pub within : (c s : ℕ) → c < chain_count w → Has (slots_in w c) s → s < slot_count w
  pub marked : (c s : ℕ) → c < chain_count w → Has (slots_in w c) s → chain_of w s ≡ c

-- each slot is in the chain whose number it has
pub record AreSound (w : Chains) : Type 0 where
  pub links : AreLinked w
  pub range : (s : ℕ) → s < slot_count w → chain_of w s < chain_count w
  pub placed : (s : ℕ) → s < slot_count w → Has (slots_in w (chain_of w s)) s
  pub total : sum w.count.items ≡ slot_count w

-- each slot but one is in the chain whose number it has, and this one is in none
pub record AreSoundBut (w : Chains) (out : ℕ) : Type 0 where
  pub links : AreLinked w
  pub range : (s : ℕ) → s < slot_count w → chain_of w s < chain_count w
  pub placed : (s : ℕ) → s < slot_count w → s ≢ out → Has (slots_in w (chain_of w s)) s
  pub absent : (c : ℕ) → c < chain_count w → Has (slots_in w c) out → ⊥
  pub total : sum w.count.items + 1 ≡ slot_count w

-- as many chains and slots as before
pub record KeepsSize (w w' : Chains) : Type 0 where
  pub first_length : length w'.first.items ≡ length w.first.items
  pub last_length : length w'.last.items ≡ length w.last.items
  pub count_length : length w'.count.items ≡ length w.count.items
  pub next_length : length w'.next.items ≡ length w.next.items
  pub previous_length : length w'.previous.items ≡ length w.previous.items
  pub chain_length : length w'.chain.items ≡ length w.chain.items

-- the neighbours of a slot are linked to one another
pub record Detaches (w w' : Chains) (slot : ℕ) : Type 0 where
  pub size : KeepsSize w w'
  pub next_here : next_in w' (chain_of w slot) (slice_index w.previous.items slot) ≡ slice_index w.next.items slot
  pub next_same : (c x : ℕ) → x ≢ slice_index w.previous.items slot → next_in w' c x ≡ next_in w c x
  pub next_apart : (c : ℕ) → c ≢ chain_of w slot → slice_index w.previous.items slot ≡ END → next_in w' c END ≡ next_in w c END
  pub previous_here : previous_in w' (chain_of w slot) (slice_index w.next.items slot) ≡ slice_index w.previous.items slot
  pub previous_same : (c x : ℕ) → x ≢ slice_index w.next.items slot → previous_in w' c x ≡ previous_in w c x
  pub previous_apart : (c : ℕ) → c ≢ chain_of w slot → slice_index w.next.items slot ≡ END → previous_in w' c END ≡ previous_in w c END
  pub chain : w'.chain.items ≡ w.chain.items
  pub count : w'.count.items ≡ slice_set w.count.items (chain_of w slot) (slice_index w.count.items (chain_of w slot) - 1)

-- a slot is linked behind the last one of a chain
pub record Appends (w w' : Chains) (slot chain : ℕ) : Type 0 where
  pub size : KeepsSize w w'
  pub next_slot : next_in w' chain slot ≡ END
  pub next_last : next_in w' chain (slice_index w.last.items chain) ≡ slot
  pub next_same : (c x : ℕ) → x ≢ slot → x ≢ slice_index w.last.items chain → next_in w' c x ≡ next_in w c x
  pub next_apart : (c : ℕ) → c ≢ chain → slice_index w.last.items chain ≡ END → next_in w' c END ≡ next_in w c END
  pub previous_slot : previous_in w' chain slot ≡ slice_index w.last.items chain
  pub previous_end : previous_in w' chain END ≡ slot
  pub previous_same : (c x : ℕ) → x ≢ slot → x ≢ END → previous_in w' c x ≡ previous_in w c x
  pub previous_apart : (c : ℕ) → c ≢ chain → previous_in w' c END ≡ previous_in w c END
  pub marks : w'.chain.items ≡ slice_set w.chain.items slot chain
  pub count : w'.count.items ≡ slice_set w.count.items chain (slice_index w.count.items chain + 1)

-- a slot becomes the last of a chain, and leaves its own
pub record Moves (w w' : Chains) (slot chain : ℕ) : Type 0 where
  pub chains : chain_count w' ≡ chain_count w
  pub slots : slot_count w' ≡ slot_count w
  pub here : slots_in w' chain ≡ without slot (slots_in w chain) ++ slot ∷ []
  pub others : (c : ℕ) → c < chain_count w → c ≢ chain → slots_in w' c ≡ without slot (slots_in w c)
  pub marks : w'.chain.items ≡ slice_set w.chain.items slot chain

-- the same chains, which agree in every link
pub record IsSame (w w' : Chains) : Type 0 where
  pub chains : chain_count w' ≡ chain_count w
  pub slots : slot_count w' ≡ slot_count w
  pub lists : (c : ℕ) → c < chain_count w → slots_in w' c ≡ slots_in w c
  pub marks : w'.chain.items ≡ w.chain.items

-- an empty chain comes behind the others
pub record AddsChain (w w' : Chains) : Type 0 where
  pub chains : chain_count w' ≡ chain_count w + 1
  pub slots : slot_count w' ≡ slot_count w
  pub lists : (c : ℕ) → c < chain_count w → slots_in w' c ≡ slots_in w c
  pub added : slots_in w' (chain_count w) ≡ []
  pub marks : w'.chain.items ≡ w.chain.items

-- a slot comes behind the others, as the last one of chain 0
pub record AddsSlot (w w' : Chains) : Type 0 where
  pub chains : chain_count w' ≡ chain_count w
  pub slots : slot_count w' ≡ slot_count w + 1
  pub free : slots_in w' 0 ≡ slots_in w 0 ++ slot_count w ∷ []
  pub lists : (c : ℕ) → c < chain_count w → c ≢ 0 → slots_in w' c ≡ slots_in w c
  pub marks : (s : ℕ) → s < slot_count w → chain_of w' s ≡ chain_of w s
  pub mark : chain_of w' (slot_count w) ≡ 0

-- the links of the old chains and slots are as they were
pub record Extends (w w' : Chains) : Type 0 where
  pub first : (c : ℕ) → c < chain_count w → slice_index w'.first.items c ≡ slice_index w.first.items c
  pub last : (c : ℕ) → c < chain_count w → slice_index w'.last.items c ≡ slice_index w.last.items c
  pub count : (c : ℕ) → c < chain_count w → slice_index w'.count.items c ≡ slice_index w.count.items c
  pub next : (s : ℕ) → s < slot_count w → slice_index w'.next.items s ≡ slice_index w.next.items s
  pub previous : (s : ℕ) → s < slot_count w → slice_index w'.previous.items s ≡ slice_index w.previous.items s
  pub marks : (s : ℕ) → s < slot_count w → slice_index w'.chain.items s ≡ slice_index w.chain.items s

-- a copy with more chains, and with so many more free slots
pub record Grows (w w' : Chains) (chains more : ℕ) : Type 0 where
  pub chains_enough : chains ≤ chain_count w'
  pub chains_kept : chain_count w ≤ chain_count w'
  pub slots : slot_count w' ≡ slot_count w + more
  pub free : length (slots_in w' 0) ≡ length (slots_in w 0) + more
  pub lists : (c : ℕ) → c ≢ 0 → c < chain_count w → slots_in w' c ≡ slots_in w c
  pub marks : (s : ℕ) → s < slot_count w → chain_of w' s ≡ chain_of w s
  pub new_marks : (s : ℕ) → slot_count w ≤ s → s < slot_count w' → chain_of w' s ≡ 0
