-- The groups of files; a file is named after its group.
-- Word: nodes and areas in a state's words
-- Lift: the words read as an abstract tree, and soundness carried both ways
-- Walk: the model's walks over links come to what the abstract tree has there
-- Change: the model's changes of words are those of the abstract tree
-- Call: one call on a sound state does what it does on the row
-- Row: what calls of the row keep, and which numbers they answer
-- Cursor: which cursors are current, and those that calls answer
-- Any: calls on any words, sound or not (demand 1)
-- Audit: audit says yes exactly where the state is sound, and its cost
-- Lookup: how many slots a lookup examines
-- Stamp: what the stamp counts, and that ids do not see it
-- Seat: calls that name a seat
-- Plan: the planning tree
-- Reading: the reading copy
-- Repair: repair
-- Top: the theorems on every list of calls
-- Example: the premises of the theorems are met
pub mod WordFits
pub mod WordTidy
pub mod WordNeat
pub mod WordPut
pub mod LiftTree
pub mod LiftCount
pub mod LiftLevels
pub mod LiftMarks
pub mod LiftEntries
pub mod LiftSound
pub mod LiftSoundBack
pub mod WalkUp
pub mod WalkNext
pub mod WalkDown
pub mod WalkFinger
pub mod WalkLookup
pub mod ChangeSums
pub mod ChangeSlot
pub mod ChangeAdopt
pub mod ChangeLink
pub mod ChangeDivide
pub mod ChangeAddChild
pub mod ChangeSplitLeaf
pub mod ChangeMakeRoom
pub mod ChangeGap
pub mod ChangeEnter
pub mod ChangePlace
pub mod ChangeSplitSlot
pub mod CallOpen
pub mod CallSimulates
pub mod CallMake
pub mod CallRead
pub mod CallCompare
pub mod CallLookup
pub mod CallResize
pub mod CallInsert
pub mod CallSplit
pub mod CallPrint
pub mod CallById
pub mod CallByCursor
pub mod RowViews
pub mod RowEach
pub mod RowLines
pub mod RowBounds
pub mod RowCount
pub mod RowNumbers
pub mod RowSeven
pub mod RowHollow
pub mod CursorCurrent
pub mod CursorAnswered
pub mod AnyFixed
pub mod AnyLengths
pub mod AnyBare
pub mod AnySearch
pub mod AnyRefused
pub mod AuditTests
pub mod AuditFacts
pub mod AuditDepth
pub mod AuditSound
pub mod AuditExactly
pub mod AuditCostSums
pub mod AuditCost
pub mod LookupDepth
pub mod LookupExamined
pub mod LookupRow
pub mod StampCount
pub mod StampTwins
pub mod StampById
pub mod SeatRules
pub mod SeatDeeds
pub mod SeatById
pub mod SeatNumbers
pub mod SeatRefused
pub mod SeatByCursor
pub mod SeatStamps
pub mod PlanChoice
pub mod PlanRow
pub mod ReadingRows
pub mod ReadingCalls
pub mod RepairLists
pub mod RepairMarks
pub mod RepairHolder
pub mod RepairTrusted
pub mod RepairUnique
pub mod RepairNodes
pub mod RepairWords
pub mod RepairElse
pub mod RepairTest
pub mod RepairKept
pub mod RepairSlots
pub mod RepairExactly
pub mod TopById
pub mod TopByCursor
pub mod TopStamps
pub mod TopSeats
pub mod TopPlan
pub mod TopReading
pub mod ExampleById
pub mod ExampleByCursor
pub mod ExampleStamps
pub mod ExampleSeats
pub mod ExampleWidths
pub mod ExamplePlan
pub mod ExampleReading
pub mod ExampleLookup
pub mod ExampleRepair
