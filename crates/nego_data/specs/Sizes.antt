-- The sizes that agents may have, and tuples of values of up to 16 agents.
use Rattle.std.specs.Prelude.{◌≡◌, ℕ, ◌+◌, ◌-◌, ◌<◌, ◌≤◌, nat_lt, ◌==◌, List, ◌++◌, length, take, position, find, replicate, slice_index, Option, Some, All, ◌↔◌}
use Rattle.std.specs.List.{range_with_len}
use Rattle.std.specs.Option.{option_map, option_or}
use Rattle.nego_data.specs.declared.joint_data.SizeFault.{SizeFault}
use Rattle.nego_data.specs.declared.joint_data.SizeFault.TheVariants.{ZeroSize, SizeTooLarge, JointTooLarge}
use Rattle.nego_data.specs.Data.{data_count, split, joint}

-- These are sizes of 1 to 16 agents: each is from 1 to 64, and their product is at most 1,024.
pub record AreSizes (sizes : List ℕ) : Type 0 where
  pub some_agent : 0 < length sizes
  pub few_agents : length sizes ≤ 16
  pub each : All (λ size. (0 < size) × (size ≤ 64)) sizes
  pub together : data_count sizes ≤ 1024

-- The sizes have this fault. Each fault is of the first agent who has it, and no agent has a fault that stands above it.
abbrev pub HasFault : List ℕ → SizeFault → Type 0
HasFault sizes (ZeroSize a) = position (λ size. size == 0) sizes ≡ Some a.0
HasFault sizes (SizeTooLarge a) = All (λ size. 0 < size) sizes × (position (λ size. nat_lt 64 size) sizes ≡ Some a.0)
HasFault sizes (JointTooLarge a) =
    All (λ size. (0 < size) × (size ≤ 64)) sizes × (a.0 < length sizes) × (data_count (take a.0 sizes) ≤ 1024) × (1024 < data_count (take (a.0 + 1) sizes))

-- the first place up to which the product of the sizes passes 1,024
abbrev pub place_past_joint : List ℕ → Option ℕ
place_past_joint sizes = find (λ k. nat_lt 1024 (data_count (take (k + 1) sizes))) (range_with_len 0 (length sizes))

-- The first fault of sizes: of the first that is 0, else of the first above 64, else of the first at which the product of
-- those so far passes 1,024.
abbrev pub fault_of_sizes : List ℕ → Option SizeFault
fault_of_sizes sizes =
    option_or (option_map (λ k. ZeroSize (record { 0 = k })) (position (λ size. size == 0) sizes))
    (option_or (option_map (λ k. SizeTooLarge (record { 0 = k })) (position (λ size. nat_lt 64 size) sizes))
    (option_map (λ k. JointTooLarge (record { 0 = k })) (place_past_joint sizes)))

-- Each agent's value is below the agent's size.
abbrev pub AreBelow : List ℕ → List ℕ → Type 0
AreBelow sizes values = (a : ℕ) → a < length sizes → slice_index values a < slice_index sizes a

-- the values of the agents in joint data, and 0 past the agents up to 16
unfoldable pub tuple_of : List ℕ → ℕ → List ℕ
tuple_of sizes d = split sizes d ++ replicate (16 - length sizes) 0

-- A tuple: 16 numbers, each agent's below the agent's size, and 0 past the agents.
pub record IsTuple (sizes tuple : List ℕ) : Type 0 where
  pub sixteen : length tuple ≡ 16
  pub values : AreBelow sizes tuple
  pub rest : (a : ℕ) → length sizes ≤ a → slice_index tuple a ≡ 0

-- Joint data and tuples are one for one: the number of a tuple is that of joint data which have it as their tuple.
pub record JointAndSplitAreInverse : Type 0 where
  pub joint_of_tuple : (sizes : List ℕ) (d : ℕ) → AreSizes sizes → d < data_count sizes → IsTuple sizes (tuple_of sizes d) × (joint sizes (tuple_of sizes d) ≡ d)
  pub tuple_of_joint : (sizes tuple : List ℕ) → AreSizes sizes → IsTuple sizes tuple → (joint sizes tuple < data_count sizes) × (tuple_of sizes (joint sizes tuple) ≡ tuple)

-- What the first fault of sizes says of them.
abbrev pub FirstFaultIsSo : Type 0
FirstFaultIsSo = (sizes : List ℕ) (fault : SizeFault) → (fault_of_sizes sizes ≡ Some fault) ↔ HasFault sizes fault
