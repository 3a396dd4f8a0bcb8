-- What the product means: document 01, section by section; Refusals stands before Book, which uses it. Demand is the buyer's demand 3. Lists, Bounds,
-- Valid, Values, Index and Cells are no section of it: functions on lists, the bounds by name, what is known of a book that was read, what the values
-- of the declared types hold, and the table that the search fills.
-- Of document 02: Rounding (M-102), a field of Demand3 (M-106), Charge (M-100 and M-111), Order (M-101), Views (M-103) and Day (M-107); M-104 changes sentences of
-- Book, Calls and Quick, and Answered in Demand is of it; M-105 changes sentences of Book and Quick, and by that what Trials, Calls, SheetReader and
-- Demand say, and MustRun says what it means for choices; M-108 changes sentences of Book and Trials, and Ratio says what it means for cells and plans; Strict is
-- M-109, and Pool M-110.
pub mod Lists
pub mod Bounds
pub mod Frames
pub mod Refusals
pub mod Book
pub mod Choice
pub mod MustRun
pub mod Grid
pub mod Trials
pub mod Answers
pub mod Sheet
pub mod Calls
pub mod Quick
pub mod SheetReader
pub mod Program
pub mod Demand
pub mod Valid
pub mod Values
pub mod Index
pub mod Cells
pub mod Rounding
pub mod Charge
pub mod Order
pub mod Views
pub mod Day
pub mod Ratio
pub mod Strict
pub mod Pool
