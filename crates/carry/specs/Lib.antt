-- Sessions of the older release, what it asked, what its opening and its feed gave, and what is promised of carrying
-- them over.
pub mod OlderQuestions
pub mod Older
pub mod Promises
